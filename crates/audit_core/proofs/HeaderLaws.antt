-- What a line of the header makes of what is known.
use Rattle.std.proofs.Common.{◌≡◌, ℕ, ◌==◌, ◌+◌, Bool, true, false, not, ◌||◌, List, [], ◌∷◌, ◌++◌, Option, Some, refl, sym, ap, subst, ◌∙◌}
use Rattle.std.specs.Prelude.{is_some, take, slice_get, nat_eq}
use Rattle.std.specs.HashMap as hash
use Rattle.std.specs.List.{list_all}
use Rattle.std.proofs.lemmas.List.Folds.{list_any-append}
use Rattle.journal_lines.specs.declared.line.Line.{Line}
use Rattle.journal_lines.specs.declared.line.Line.TheVariants as line
use Rattle.journal_readings.specs.Lines.{has_node}
use Rattle.journal_readings.specs.Settings.{policy_of, policy_step, factor_of, factor_step, nodes}
use Rattle.journal_readings.specs.Shape.{is_header, follows_header}
use Rattle.journal_readings.proofs.StepLaws.{fold-more}
use Rattle.audit_laws.specs.Fits.{Fits, FitsShape}
use Rattle.audit_laws.proofs.Tests.{differ, number_same}
use Rattle.audit_laws.proofs.Headers.{IsBare, bare-more, nodes-more}
use Rattle.audit_core.specs.declared.judge.Judge.{Judge}
use Rattle.audit_state.specs.declared.nodes.Node.{Node}
use Rattle.audit_state.specs.declared.stores.Stores.{Stores}
use Rattle.audit_core.specs.Known.{node_at, is_declared, kept_view, stamps_at}
use Rattle.audit_state.specs.Nodes.{IsFreshNode}
use Rattle.audit_state.specs.Records.{AreNone}
use Rattle.audit_state.specs.Stores.{history_of, held_of, touched_of, holding_of, changes_of}
use Rattle.audit_core.specs.Sees.{SeesHeader, SeesJournal}
use Rattle.audit_core.specs.Steps.{KnowsNoEvents, DeclaresNode, ReadsHeader}
use Rattle.audit_core.proofs.BareLaws.{bare_state}
use Rattle.audit_core.proofs.VerdictLaws.{taken_next}

-- ---- readings

policy_more : (j : List Line) (l : Line) → policy_of (j ++ l ∷ []) ≡ policy_step (policy_of j) l
unfolding policy_of
policy_more j l = fold-more policy_step _ j l

factor_more : (j : List Line) (l : Line) → factor_of (j ++ l ∷ []) ≡ factor_step (factor_of j) l
unfolding factor_of
factor_more j l = fold-more factor_step _ j l

same_nodes : (j : List Line) (l : Line) (n : ℕ) → nodes (l ∷ []) ≡ [] → has_node (nodes j) n ≡ has_node (nodes (j ++ l ∷ [])) n
same_nodes j l n e = sym (ap (λ (ns : List ℕ). has_node ns n) (nodes-more j l) ∙ (list_any-append (λ m. m == n) (nodes j) (nodes (l ∷ [])) ∙ (ap (λ (ns : List ℕ). has_node (nodes j) n || has_node ns n) e ∙ one (has_node (nodes j) n))))
  where
    one : (b : Bool) → (b || false) ≡ b
    one true = refl
    one false = refl

-- ---- what is read

header_same : (old new : Judge) (j : List Line) (l : Line) → new.by ≡ policy_step old.by l → new.factor ≡ factor_step old.factor l → ((n : ℕ) → is_declared new n ≡ is_declared old n) → nodes (l ∷ []) ≡ [] → SeesHeader old j → SeesHeader new (j ++ l ∷ [])
header_same old new j l p f d e h = record {
  policy = p ∙ (ap (λ (by : _). policy_step by l) h.policy ∙ sym (policy_more j l));
  factor = f ∙ (ap (λ (n : ℕ). factor_step n l) h.factor ∙ sym (factor_more j l));
  declared = λ n. d n ∙ (h.declared n ∙ same_nodes j l n e);
}

node_header : (old new : Judge) (j : List Line) (n : ℕ) (rack : Option ℕ) → DeclaresNode n old new → SeesHeader old j → SeesHeader new (j ++ line.Node n rack ∷ [])
unfolding nodes
node_header old new j n rack d h = record {
  policy = ap (λ (s : Judge). s.by) d.rest ∙ (h.policy ∙ sym (policy_more j (line.Node n rack)));
  factor = ap (λ (s : Judge). s.factor) d.rest ∙ (h.factor ∙ sym (factor_more j (line.Node n rack)));
  declared = λ m. go m (n == m) refl ∙ sym (ap (λ (ns : List ℕ). has_node ns m) (nodes-more j (line.Node n rack)) ∙ list_any-append (λ x. x == m) (nodes j) (n ∷ []));
}
  where
    or_true : (b : Bool) → (b || true) ≡ true
    or_true true = refl
    or_true false = refl

    or_none : (b : Bool) → (b || false) ≡ b
    or_none true = refl
    or_none false = refl

    go : (m : ℕ) (b : Bool) → (n == m) ≡ b → is_declared new m ≡ (has_node (nodes j) m || ((n == m) || false))
    go m true e = subst (λ (x : ℕ). is_declared new x ≡ true) (number_same n m e) d.declared
        ∙ sym (ap (λ (b : Bool). has_node (nodes j) m || (b || false)) e ∙ or_true (has_node (nodes j) m))
    go m false e = ap is_some (d.others m e) ∙ (h.declared m ∙ sym (ap (λ (b : Bool). has_node (nodes j) m || (b || false)) e ∙ or_none (has_node (nodes j) m)))

reads_header : (old new : Judge) (j : List Line) (l : Line) → is_header l ≡ true → ReadsHeader l old new → SeesHeader old j → SeesHeader new (j ++ l ∷ [])
unfolding nodes
reads_header old new j (line.Script v) i r h = header_same old new j (line.Script v) (ap (λ (s : Judge). s.by) r) (ap (λ (s : Judge). s.factor) r) (λ n. ap (λ (s : Judge). is_declared s n) r) refl h
reads_header old new j (line.Factor f) i r h = header_same old new j (line.Factor f) (ap (λ (s : Judge). s.by) r) (ap (λ (s : Judge). s.factor) r) (λ n. ap (λ (s : Judge). is_declared s n) r) refl h
reads_header old new j (line.Policy by) i r h = header_same old new j (line.Policy by) (ap (λ (s : Judge). s.by) r) (ap (λ (s : Judge). s.factor) r) (λ n. ap (λ (s : Judge). is_declared s n) r) refl h
reads_header old new j (line.Node n rack) i r h = node_header old new j n rack r h
reads_header old new j l i r h = differ i refl

-- ---- events

-- what is known but the header is as it was
pub record SameEvents (old new : Judge) : Type 0 where
  pub lines : new.lines ≡ old.lines
  pub begun : new.begun ≡ old.begun
  pub nodes : (n : ℕ) (node : Node) → node_at new n ≡ Some node → IsFreshNode node
  pub records : new.records ≡ old.records
  pub stores : new.stores ≡ old.stores
  pub views : new.views ≡ old.views
  pub stamps : new.stamps ≡ old.stamps
  pub covers : new.covers ≡ old.covers

no_events : (old new : Judge) → SameEvents old new → KnowsNoEvents old → KnowsNoEvents new
no_events old new e h = record {
  nodes = e.nodes;
  records = subst AreNone (sym e.records) h.records;
  contents = λ n r. ap (λ (s : Stores). history_of s n r) e.stores ∙ h.contents n r;
  held = λ n p. ap (λ (s : Stores). held_of s n p) e.stores ∙ h.held n p;
  touched = λ n p. ap (λ (s : Stores). touched_of s n p) e.stores ∙ h.touched n p;
  holding = λ n p. ap (λ (s : Stores). holding_of s n p) e.stores ∙ h.holding n p;
  changes = λ n p. ap (λ (s : Stores). changes_of s n p) e.stores ∙ h.changes n p;
  views = λ k. ap (λ (s : Judge). kept_view s k) (views_as e.views) ∙ h.views k;
  stamps = λ n p. ap (λ (s : Judge). stamps_at s n p) (stamps_as e.stamps) ∙ h.stamps n p;
  covers = λ c. ap (λ (s : Judge). hash.get nat_eq s.covers c) (covers_as e.covers) ∙ h.covers c;
}
  where
    views_as : new.views ≡ old.views → record old { views = new.views } ≡ old
    views_as i = ap (λ (m : _). record old { views = m }) i

    stamps_as : new.stamps ≡ old.stamps → record old { stamps = new.stamps } ≡ old
    stamps_as i = ap (λ (m : _). record old { stamps = m }) i

    covers_as : new.covers ≡ old.covers → record old { covers = new.covers } ≡ old
    covers_as i = ap (λ (m : _). record old { covers = m }) i

node_fresh : (n : ℕ) (old new : Judge) → DeclaresNode n old new → KnowsNoEvents old → (m : ℕ) (node : Node) → node_at new m ≡ Some node → IsFreshNode node
node_fresh n old new d h m node e = go (n == m) refl
  where
    go : (b : Bool) → (n == m) ≡ b → IsFreshNode node
    go true i = d.here node (ap (node_at new) (number_same n m i) ∙ e)
    go false i = h.nodes m node (sym (d.others m i) ∙ e)

same_events : (l : Line) (old new : Judge) → is_header l ≡ true → ReadsHeader l old new → KnowsNoEvents old → SameEvents old new
same_events (line.Script v) old new i r h = all_but old new r h
  where
    all_but : (old new : Judge) → new ≡ old → KnowsNoEvents old → SameEvents old new
    all_but old new r h = record {
      lines = ap (λ (s : Judge). s.lines) r;
      begun = ap (λ (s : Judge). s.begun) r;
      nodes = λ n node e. h.nodes n node (ap (λ (s : Judge). node_at s n) (sym r) ∙ e);
      records = ap (λ (s : Judge). s.records) r;
      stores = ap (λ (s : Judge). s.stores) r;
      views = ap (λ (s : Judge). s.views) r;
      stamps = ap (λ (s : Judge). s.stamps) r;
      covers = ap (λ (s : Judge). s.covers) r;
    }
same_events (line.Factor f) old new i r h = record {
  lines = ap (λ (s : Judge). s.lines) r;
  begun = ap (λ (s : Judge). s.begun) r;
  nodes = λ n node e. h.nodes n node (ap (λ (s : Judge). node_at s n) (sym r) ∙ e);
  records = ap (λ (s : Judge). s.records) r;
  stores = ap (λ (s : Judge). s.stores) r;
  views = ap (λ (s : Judge). s.views) r;
  stamps = ap (λ (s : Judge). s.stamps) r;
  covers = ap (λ (s : Judge). s.covers) r;
}
same_events (line.Policy by) old new i r h = record {
  lines = ap (λ (s : Judge). s.lines) r;
  begun = ap (λ (s : Judge). s.begun) r;
  nodes = λ n node e. h.nodes n node (ap (λ (s : Judge). node_at s n) (sym r) ∙ e);
  records = ap (λ (s : Judge). s.records) r;
  stores = ap (λ (s : Judge). s.stores) r;
  views = ap (λ (s : Judge). s.views) r;
  stamps = ap (λ (s : Judge). s.stamps) r;
  covers = ap (λ (s : Judge). s.covers) r;
}
same_events (line.Node n rack) old new i r h = record {
  lines = ap (λ (s : Judge). s.lines) r.rest;
  begun = ap (λ (s : Judge). s.begun) r.rest;
  nodes = node_fresh n old new r h;
  records = ap (λ (s : Judge). s.records) r.rest;
  stores = ap (λ (s : Judge). s.stores) r.rest;
  views = ap (λ (s : Judge). s.views) r.rest;
  stamps = ap (λ (s : Judge). s.stamps) r.rest;
  covers = ap (λ (s : Judge). s.covers) r.rest;
}
same_events l old new i r h = differ i refl

-- ---- the step

-- a line of the header stands behind such lines alone
bare_so : (j : List Line) (l : Line) → is_header l ≡ true → follows_header j l ≡ true → IsBare j
bare_so j l i e = go (is_header l) i e
  where
    go : (b : Bool) → b ≡ true → (not b || list_all is_header j) ≡ true → IsBare j
    go true i e = e
    go false i e = differ i refl

header_next : (old new : Judge) (i : ℕ) (all j : List Line) (l : Line) → take (i + 1) all ≡ j ++ l ∷ [] → IsBare j → is_header l ≡ true → ReadsHeader l old new
    → old.lines.now ≡ all → old.begun ≡ not (list_all is_header j) → SeesHeader old j → KnowsNoEvents old → SeesJournal new (i + 1) all
header_next old new i all j l next bare is reads lines begun header events =
    let same : SameEvents old new = same_events l old new is reads events in
    let bare_now : IsBare (take (i + 1) all) = subst IsBare (sym next) (bare-more j l bare is) in
    let known : KnowsNoEvents new = no_events old new same events in
    record {
      state = bare_state new (i + 1) all (ap (λ (ls : _). ls.now) same.lines ∙ lines) bare_now (subst (SeesHeader new) (sym next) (reads_header old new j l is reads header)) known;
      begun = same.begun ∙ (begun ∙ (ap not bare ∙ sym (ap not bare_now)));
      bare = λ e. known;
    }

pub header_more : (old new : Judge) (i : ℕ) (all : List Line) (l : Line) → slice_get all i ≡ Some l → is_header l ≡ true → follows_header (take i all) l ≡ true → ReadsHeader l old new → SeesJournal old i all → SeesJournal new (i + 1) all
header_more old new i all l e is follows reads h =
    let bare : IsBare (take i all) = bare_so (take i all) l is follows in
    header_next old new i all (take i all) l (taken_next all i l e) bare is reads h.state.lines h.begun h.state.frame.header (h.bare bare)

-- ---- the laws

-- a line of a header that keeps the shape keeps every law
pub header_fits : (j : List Line) (l : Line) → is_header l ≡ true → FitsShape j l → Fits j l
header_fits j (line.Script v) i f = record { shape = f; map = tt; losses = tt; replicas = record { whole = λ k r d e. differ e refl }; joins = tt }
header_fits j (line.Factor n) i f = record { shape = f; map = tt; losses = tt; replicas = record { whole = λ k r d e. differ e refl }; joins = tt }
header_fits j (line.Policy by) i f = record { shape = f; map = tt; losses = tt; replicas = record { whole = λ k r d e. differ e refl }; joins = tt }
header_fits j (line.Node n rack) i f = record { shape = f; map = tt; losses = tt; replicas = record { whole = λ k r d e. differ e refl }; joins = tt }
header_fits j l i f = differ i refl
