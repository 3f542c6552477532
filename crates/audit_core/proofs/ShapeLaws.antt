-- What the shape asks of a line is what is tested by what is known.
use Rattle.std.proofs.Common.{◌≡◌, ℕ, ◌==◌, Bool, true, false, not, ◌&&◌, ◌||◌, cond, List, [], ◌∷◌, ◌++◌, map, length, Option, Some, None, option_map, ◌↔◌, refl, sym, ap, ap₂, ◌∙◌, append-nil}
use Rattle.std.specs.Prelude.{is_some}
use Rattle.std.specs.List.{list_any, list_all, concat}
use Rattle.std.proofs.lemmas.List.Folds.{list_all-append, list_all-map}
use Rattle.cluster_types.specs.declared.cluster_key.ClusterKey.{ClusterKey}
use Rattle.cluster_types.specs.declared.member.Member.{Member}
use Rattle.cluster_types.specs.Members.{ids_of}
use Rattle.cluster_types.specs.MembersEqual.{same_members_decides}
use Rattle.journal_lines.specs.declared.line.Line.{Line}
use Rattle.journal_lines.specs.declared.line.Line.TheVariants as line
use Rattle.journal_readings.specs.Lines.{same_key, has_node, is_enter, lines_before}
use Rattle.journal_readings.specs.Settings.{nodes}
use Rattle.journal_readings.specs.Views.{members}
use Rattle.journal_readings.specs.Shape as shape
use Rattle.journal_readings.proofs.Fronts.{and_left, and_right}
use Rattle.audit_laws.specs.Fits as fits
use Rattle.audit_laws.proofs.Tests.{differ, number_here}
use Rattle.audit_laws.proofs.Headers.{nodes-more}
use Rattle.audit_laws.proofs.MapSteps.{entered_key}
use Rattle.audit_core.specs.declared.judge.Judge.{Judge}
use Rattle.audit_state.specs.declared.views.View.{View}
use Rattle.audit_core.specs.Known.{is_declared, kept_view}
use Rattle.audit_state.specs.Views.{entry_line}
use Rattle.audit_core.specs.Sees.{SeesFrame}
use Rattle.audit_core.specs.Shapes as known

-- ---- tests

pub all_same : {A : Type 0} (f g : A → Bool) → ((x : A) → f x ≡ g x) → (xs : List A) → list_all f xs ≡ list_all g xs
all_same f g h [] = refl
all_same f g h (x ∷ xs) = ap₂ (λ (a b : Bool). a && b) (h x) (all_same f g h xs)

pub any_map : {A B : Type 0} (f : B → Bool) (g : A → B) (xs : List A) → list_any f (map g xs) ≡ list_any (λ x. f (g x)) xs
any_map f g [] = refl
any_map f g (x ∷ xs) = ap (λ (b : Bool). f (g x) || b) (any_map f g xs)

pub and_pair : (a b : Bool) → a ≡ true → b ≡ true → (a && b) ≡ true
and_pair true b e f = f
and_pair false b e f = e

-- there are lines before the first that passes exactly where one passes
pub before_any : (test : Line → Bool) (ls : List Line) → is_some (lines_before test ls) ≡ list_any test ls
before_any test [] = refl
before_any test (x ∷ ls) = go (test x) (lines_before test ls) (before_any test ls)
  where
    go : (b : Bool) (o : Option (List Line)) → is_some o ≡ list_any test ls → is_some (cond b (Some []) (option_map (λ before. x ∷ before) o)) ≡ (b || list_any test ls)
    go true o e = refl
    go false None e = e
    go false (Some y) e = e

some_mapped : {A B : Type 0} (f : A → B) (o : Option A) → is_some (option_map f o) ≡ is_some o
some_mapped f None = refl
some_mapped f (Some x) = refl

pub members_none : (k : ClusterKey) (j : List Line) → list_any (fits.enters_key k) j ≡ false → members k j ≡ []
members_none k [] e = refl
members_none k (line.Enter n l ms ∷ j) e = go (same_key l k) (members_none k j) e
  where
    go : (b : Bool) → (list_any (fits.enters_key k) j ≡ false → members k j ≡ []) → (b || list_any (fits.enters_key k) j) ≡ false → cond b ms (members k j) ≡ []
    go true rest q = differ refl q
    go false rest q = rest q
members_none k (x ∷ j) e = members_none k j e

-- ---- each test

follows_step : (s : Judge) (j : List Line) (l : Line) → s.begun ≡ not (list_all shape.is_header j) → known.header_goes_on s l ≡ shape.follows_header j l
follows_step s j l e = ap (λ (b : Bool). not b || not (shape.is_header l)) e ∙ go (list_all shape.is_header j) (shape.is_header l)
  where
    go : (a h : Bool) → (not (not a) || not h) ≡ (not h || a)
    go true true = refl
    go true false = refl
    go false true = refl
    go false false = refl

new_step : (s : Judge) (j : List Line) (l : Line) → ((n : ℕ) → is_declared s n ≡ has_node (nodes j) n) → known.declares_unknown_node s l ≡ fits.declares_new j l
new_step s j (line.Node n rack) h = ap not (h n)
new_step s j l h = refl

pub declared_last : (ns : List ℕ) (n : ℕ) → has_node (ns ++ n ∷ []) n ≡ true
declared_last [] n = ap (λ (b : Bool). b || false) (number_here n)
declared_last (m ∷ ns) n = go (m == n) (declared_last ns n)
  where
    go : (b : Bool) → has_node (ns ++ n ∷ []) n ≡ true → (b || has_node (ns ++ n ∷ []) n) ≡ true
    go true e = refl
    go false e = e

none_more : (j : List Line) (l : Line) → nodes (l ∷ []) ≡ [] → nodes (j ++ l ∷ []) ≡ nodes j
none_more j l e = nodes-more j l ∙ (ap (λ (ns : List ℕ). nodes j ++ ns) e ∙ append-nil (nodes j))

node_more : (j : List Line) (n : ℕ) (rack : Option ℕ) → nodes (j ++ line.Node n rack ∷ []) ≡ nodes j ++ n ∷ []
unfolding nodes
node_more j n rack = nodes-more j (line.Node n rack)

named_all : (s : Judge) (j : List Line) (l : Line) (ns : List ℕ) → ((n : ℕ) → is_declared s n ≡ has_node (nodes j) n) → nodes (l ∷ []) ≡ []
    → list_all (is_declared s) ns ≡ list_all (has_node (nodes (j ++ l ∷ []))) ns
named_all s j l ns h e = all_same (is_declared s) (has_node (nodes (j ++ l ∷ []))) (λ n. h n ∙ ap (λ (ms : List ℕ). has_node ms n) (sym (none_more j l e))) ns

named_step : (s : Judge) (j : List Line) (l : Line) → ((n : ℕ) → is_declared s n ≡ has_node (nodes j) n) → known.names_known_nodes s l ≡ shape.names_declared (j ++ l ∷ []) l
unfolding nodes shape.named_nodes
named_step s j (line.Node n rack) h = sym (and_pair (has_node (nodes (j ++ line.Node n rack ∷ [])) n) true (ap (λ (ns : List ℕ). has_node ns n) (node_more j n rack) ∙ declared_last (nodes j) n) refl)
named_step s j l h = named_all s j l (shape.named_nodes l) h refl

pub entered_by : (s : Judge) (j : List Line) (k : ClusterKey) (n : ℕ) → SeesFrame s j → (o : Option View) → kept_view s k ≡ o → is_some (known.entry_in o n) ≡ list_any (is_enter k n) j
entered_by s j k n f None e = none (list_any (is_enter k n) j) refl
  where
    none : (b : Bool) → list_any (is_enter k n) j ≡ b → false ≡ list_any (is_enter k n) j
    none true i = differ (entered_key k n j i) (sym (f.known_views k) ∙ ap is_some e)
    none false i = sym i
entered_by s j k n f (Some x) e =
    ap is_some ((f.views k x e).entered n) ∙ (some_mapped length (lines_before (is_enter k n) j) ∙ before_any (is_enter k n) j)

pub entered_step : (s : Judge) (j : List Line) (k : ClusterKey) (n : ℕ) → SeesFrame s j → known.has_entry s k n ≡ shape.has_entered j k n
entered_step s j k n f = entered_by s j k n f (kept_view s k) refl

all_entered : (s : Judge) (j : List Line) (k : ClusterKey) → SeesFrame s j → (o : Option View) → kept_view s k ≡ o → known.all_entered_in o ≡ shape.have_all_entered j k
all_entered s j k f None e = sym (ap (λ (ms : List Member). list_all (shape.has_entered j k) (ids_of ms)) (members_none k j (sym (f.known_views k) ∙ ap is_some e)))
all_entered s j k f (Some x) e =
    ap (λ (ms : List Member). list_all (λ m. is_some (entry_line x m.id)) ms)
    (f.views k x e).members
    ∙ (all_same (λ (m : Member). is_some (entry_line x m.id)) (λ (m : Member). shape.has_entered j k m.id) (λ m. entered_by s j k m.id f (Some x) e) (members k j)
    ∙ sym (list_all-map (shape.has_entered j k) (λ (m : Member). m.id) (members k j)))

in_view_step : (s : Judge) (j : List Line) (l : Line) → SeesFrame s j → known.names_known_entry s l ≡ shape.names_entered j l
in_view_step s j (line.Exchanged n k) f = entered_step s j k n f
in_view_step s j (line.Opened n k t d a) f = entered_step s j k n f
in_view_step s j (line.Value n k t d v) f = entered_step s j k n f
in_view_step s j (line.Apply n k t d v) f = entered_step s j k n f
in_view_step s j (line.Merge n k d v) f = entered_step s j k n f
in_view_step s j (line.Done n k t) f = entered_step s j k n f
in_view_step s j (line.Settled n k p) f = entered_step s j k n f
in_view_step s j (line.Learn n k p) f = entered_step s j k n f
in_view_step s j (line.Drop n k p) f = entered_step s j k n f
in_view_step s j (line.Map n k p ms a) f = entered_step s j k n f
in_view_step s j l f = refl

entries_step : (s : Judge) (j : List Line) (l : Line) → SeesFrame s j → known.follows_every_entry s l ≡ shape.follows_entries j l
entries_step s j (line.Exchanged n k) f = all_entered s j k f (kept_view s k) refl
entries_step s j (line.Map n k p ms a) f = all_entered s j k f (kept_view s k) refl
entries_step s j l f = refl

-- ---- entries

agrees_is : (s : Judge) (j : List Line) (k : ClusterKey) (ms : List Member) → SeesFrame s j → (o : Option View) → kept_view s k ≡ o
    → (known.agrees_with o ms ≡ true) ↔ (list_any (fits.enters_key k) j ≡ true → ms ≡ members k j)
agrees_is s j k ms f None e = (λ q i. differ i (sym (f.known_views k) ∙ ap is_some e), λ q. refl)
agrees_is s j k ms f (Some x) e =
    let same : x.members ≡ members k j = (f.views k x e).members in
    let entered : list_any (fits.enters_key k) j ≡ true = sym (f.known_views k) ∙ ap is_some e in
    (λ q i. sym ((same_members_decides x.members ms).0 q) ∙ same, λ q. (same_members_decides x.members ms).1 (same ∙ sym (q entered)))

once_step : (s : Judge) (j : List Line) (n : ℕ) (k : ClusterKey) (ms : List Member) → SeesFrame s j
    → (list_any (λ (m : Member). m.id == n) ms && not (known.has_entry s k n)) ≡ shape.enters_once j (line.Enter n k ms)
once_step s j n k ms f = ap₂ (λ (a b : Bool). a && not b) (sym (any_map (λ (m : ℕ). m == n) (λ (m : Member). m.id) ms)) (entered_step s j k n f)

rightly_so : (s : Judge) (j : List Line) (l : Line) → SeesFrame s j → known.enters_rightly s l ≡ true → (shape.enters_once j l ≡ true) × fits.NamesMembers j l
rightly_so s j (line.Enter n k ms) f e = (
  sym (once_step s j n k ms f) ∙ and_left (list_any (λ (m : Member). m.id == n) ms && not (known.has_entry s k n)) _ e,
  (agrees_is s j k ms f (kept_view s k) refl).0 (and_right (list_any (λ (m : Member). m.id == n) ms && not (known.has_entry s k n)) _ e),
)
rightly_so s j l f e = (refl, tt)

rightly_then : (s : Judge) (j : List Line) (l : Line) → SeesFrame s j → shape.enters_once j l ≡ true → fits.NamesMembers j l → known.enters_rightly s l ≡ true
rightly_then s j (line.Enter n k ms) f e h = and_pair (list_any (λ (m : Member). m.id == n) ms && not (known.has_entry s k n)) _ (once_step s j n k ms f ∙ e) ((agrees_is s j k ms f (kept_view s k) refl).1 h)
rightly_then s j l f e h = refl

-- ---- all of them

pub shape_so : (s : Judge) (j : List Line) (l : Line) → SeesFrame s j → s.begun ≡ not (list_all shape.is_header j) → shape.EntersFalling l → known.fits_shape s l ≡ true → fits.FitsShape j l
shape_so s j l f b falls e =
    let five : (known.header_goes_on s l && known.declares_unknown_node s l && known.names_known_nodes s l && known.enters_rightly s l && known.names_known_entry s l) ≡ true = and_left _ (known.follows_every_entry s l) e in
    let four : (known.header_goes_on s l && known.declares_unknown_node s l && known.names_known_nodes s l && known.enters_rightly s l) ≡ true = and_left _ (known.names_known_entry s l) five in
    let three : (known.header_goes_on s l && known.declares_unknown_node s l && known.names_known_nodes s l) ≡ true = and_left _ (known.enters_rightly s l) four in
    let two : (known.header_goes_on s l && known.declares_unknown_node s l) ≡ true = and_left _ (known.names_known_nodes s l) three in
    let rightly : (shape.enters_once j l ≡ true) × fits.NamesMembers j l = rightly_so s j l f (and_right (known.header_goes_on s l && known.declares_unknown_node s l && known.names_known_nodes s l) _ four) in
    record {
      header = sym (follows_step s j l b) ∙ and_left (known.header_goes_on s l) _ two;
      new = sym (new_step s j l f.header.declared) ∙ and_right (known.header_goes_on s l) _ two;
      named = sym (named_step s j l f.header.declared) ∙ and_right (known.header_goes_on s l && known.declares_unknown_node s l) _ three;
      members = rightly.1;
      falling = falls;
      entered = rightly.0;
      in_view = sym (in_view_step s j l f) ∙ and_right (known.header_goes_on s l && known.declares_unknown_node s l && known.names_known_nodes s l && known.enters_rightly s l) _ five;
      exchanged = sym (entries_step s j l f) ∙ and_right (known.header_goes_on s l && known.declares_unknown_node s l && known.names_known_nodes s l && known.enters_rightly s l && known.names_known_entry s l) _ e;
    }

pub shape_then : (s : Judge) (j : List Line) (l : Line) → SeesFrame s j → s.begun ≡ not (list_all shape.is_header j) → fits.FitsShape j l → known.fits_shape s l ≡ true
shape_then s j l f b h =
    and_pair _ (known.follows_every_entry s l)
    (and_pair _ (known.names_known_entry s l)
    (and_pair _ (known.enters_rightly s l)
    (and_pair _ (known.names_known_nodes s l)
    (and_pair _ (known.declares_unknown_node s l) (follows_step s j l b ∙ h.header) (new_step s j l f.header.declared ∙ h.new))
    (named_step s j l f.header.declared ∙ h.named))
    (rightly_then s j l f h.entered h.members))
    (in_view_step s j l f ∙ h.in_view))
    (entries_step s j l f ∙ h.exchanged)

-- ---- nodes by the lists that name them

pub all_listed : (test : ℕ → Bool) (groups : List (List ℕ)) → list_all (λ (ids : List ℕ). list_all test ids) groups ≡ list_all test (concat groups)
all_listed test [] = refl
all_listed test (ids ∷ groups) = ap (λ (b : Bool). list_all test ids && b) (all_listed test groups) ∙ sym (list_all-append test ids (concat groups))
