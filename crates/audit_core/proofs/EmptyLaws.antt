-- Records of partitions that were empty everywhere are tried in a view, one by one.
use Rattle.std.proofs.Common.{◌≡◌, ℕ, zero, suc, ◌+◌, ◌<◌, ◌≤◌, Bool, true, false, cond, ◌&&◌, ◌||◌, List, [], ◌∷◌, ◌++◌, length, get_or, Option, Some, None, option_map, ◌↔◌, ◌⊎◌, inl, inr, refl, sym, ap, ap₂, subst, ◌∙◌, append-nil, append_assoc, arith}
use Rattle.std.specs.Prelude.{take, slice_get, option_to_list, IsTrue, bytes_eq}
use Rattle.std.specs.List.{list_any, flat_map}
use Rattle.std.proofs.lemmas.Grind.{flat_map-append}
use Rattle.std.proofs.lemmas.List.{take_more}
use Rattle.std.proofs.lemmas.List.Folds.{list_any-append}
use Rattle.cluster_types.specs.ClusterKeys.{is_view_key}
use Rattle.cluster_types.specs.declared.cluster_key.ClusterKey.{ClusterKey}
use Rattle.cluster_types.specs.declared.member.Member.{Member}
use Rattle.cluster_types.specs.Partitions.{partition_of}
use Rattle.journal_readings.specs.Lines.{same_key}
use Rattle.journal_readings.proofs.AlongLaws.{no_some, some_same}
use Rattle.journal_readings.proofs.CopyLaws.{same_digest_is}
use Rattle.journal_readings.proofs.Fronts.{same_key_is}
use Rattle.audit_laws.proofs.ShapeSteps.{same_key_itself}
use Rattle.audit_laws.proofs.Tests.{differ}
use Rattle.audit_core.specs.declared.judge.Judge.{Judge}
use Rattle.audit_core.specs.declared.verdict.Stop.{Stop}
use Rattle.audit_state.specs.declared.nodes.Node.{Node}
use Rattle.audit_state.specs.declared.records.Records.{Records}
use Rattle.audit_state.specs.declared.views.View.{View}
use Rattle.audit_state.specs.Records.{record_digest}
use Rattle.audit_core.specs.Audits.{so_far}
use Rattle.audit_core.specs.Emptied.{written_list, stay_list, stay_in, members_in, is_empty_for, tried_with_empty, TriesEmpty, StopsEmpty}
use Rattle.audit_core.specs.Frames.{Both}
use Rattle.audit_core.specs.Known.{node_at, view_at, kept_view}
use Rattle.audit_core.specs.Settling.{is_master_in}
use Rattle.audit_core.specs.Trying.{KeepsKnown, SameButStands, StopsParted, StopsTrying, StopsRecord, TriesRecord, is_digest, tried_with_record, written_item, changed_item}
use Rattle.audit_core.specs.Wholes.{empty_in}
use Rattle.audit_core.proofs.BeginLaws.{take_item, take_whole}
use Rattle.audit_core.proofs.TryLaws.{keeps_itself, keeps_then, lines_kept, front_kept, widened}

-- ---- what tells which are tried stays

view_same : {A : Type 0} (f : Option View → A) → ((a b : View) → SameButStands a b → f (Some b) ≡ f (Some a)) → (o q : Option View) → Both SameButStands o q → f q ≡ f o
view_same {A} f h None None x = refl
view_same {A} f h (Some a) (Some b) x = h a b x
view_same {A} f h None (Some b) x = absurd x
view_same {A} f h (Some a) None x = absurd x

empty_same : (old now : Judge) (k : ClusterKey) (m p : ℕ) → KeepsKnown old now → is_empty_for now k m p ≡ is_empty_for old k m p
empty_same old now k m p keeps = ap₂ (λ (a b : Bool). a && b)
    (view_same (λ o. is_master_in o m p) (λ a b h. ap (λ (x : View). is_master_in (Some x) m p) h.rest) (kept_view old k) (kept_view now k) (keeps.views k))
    (ap (λ (s : Judge). empty_in s p (kept_view now k)) keeps.rest
    ∙ view_same (λ o. empty_in old p o) (λ a b h. ap (λ (x : View). empty_in old p (Some x)) h.rest) (kept_view old k) (kept_view now k) (keeps.views k))

digest_same : (old now : Judge) (r : ℕ) → KeepsKnown old now → record_digest now.records r ≡ record_digest old.records r
digest_same old now r keeps = ap (λ (s : Judge). record_digest s.records r) keeps.rest

any_same : (f g : ℕ → Bool) → ((r : ℕ) → f r ≡ g r) → (ns : List ℕ) → list_any f ns ≡ list_any g ns
any_same f g h [] = refl
any_same f g h (n ∷ ns) = ap₂ (λ (a b : Bool). a || b) (h n) (any_same f g h ns)

-- ---- none, and more

-- so far these were tried
pub record Emptying (m : ℕ) (k : ClusterKey) (ns : List ℕ) (old now : Judge) : Type 0 where
  pub tries : TriesEmpty m k ns old now
  pub keeps : KeepsKnown old now

none_part : (a b c : Bool) → (a || (b && (c && false))) ≡ true → a ≡ true
none_part true b c e = refl
none_part false true true e = e
none_part false true false e = e
none_part false false c e = e

pub tries_none : (m : ℕ) (k : ClusterKey) (s : Judge) → TriesEmpty m k [] s s
unfolding TriesEmpty
tries_none m k s i tried h t = widened s i tried (tried_with_empty tried s m k []) (λ l d w. inl (none_part (tried l d) (same_key k l) (is_empty_for s k m (partition_of d)) w)) t

pub emptying_none : (m : ℕ) (k : ClusterKey) (s : Judge) (ns : List ℕ) → ns ≡ [] → Emptying m k ns s s
emptying_none m k s ns e = subst (λ (xs : List ℕ). Emptying m k xs s s) (sym e) (record { tries = tries_none m k s; keeps = keeps_itself s })

more_part : (t k e a b : Bool) → (t || (k && (e && (a || b)))) ≡ true → ((t || (k && (e && a))) || (k && (e && b))) ≡ true
more_part true k e a b h = refl
more_part false true true true b h = refl
more_part false true true false b h = h
more_part false true false a b h = h
more_part false false e a b h = h

pub emptying_more : (m : ℕ) (k : ClusterKey) (ns more : List ℕ) (old now next : Judge) → Emptying m k ns old now → TriesEmpty m k more now next → KeepsKnown now next → Emptying m k (ns ++ more) old next
unfolding TriesEmpty
emptying_more m k ns more old now next g tries keeps = record {
  tries = λ i tried h t. widened next i (tried_with_empty (tried_with_empty tried old m k ns) now m k more) (tried_with_empty tried old m k (ns ++ more))
      (λ l d w. inl (part tried l d w))
      (tries i (tried_with_empty tried old m k ns) (lines_kept old now i g.keeps h) (g.tries i tried h t));
  keeps = keeps_then old now next g.keeps keeps;
}
  where
    part : (tried : ClusterKey → List ℕ → Bool) (l : ClusterKey) (d : List ℕ) → tried_with_empty tried old m k (ns ++ more) l d ≡ true → tried_with_empty (tried_with_empty tried old m k ns) now m k more l d ≡ true
    part tried l d w =
        ap₂ (λ (a b : Bool). tried_with_empty tried old m k ns l d || (same_key k l && (a && b))) (empty_same old now k m (partition_of d) g.keeps)
        (any_same (λ r. is_digest (record_digest now.records r) d) (λ r. is_digest (record_digest old.records r) d) (λ r. ap (λ (o : Option (List ℕ)). is_digest o d) (digest_same old now r g.keeps)) more)
        ∙ more_part (tried l d) (same_key k l) (is_empty_for old k m (partition_of d)) (list_any (λ r. is_digest (record_digest old.records r) d) ns) (list_any (λ r. is_digest (record_digest old.records r) d) more)
        (subst (λ (b : Bool). (tried l d || (same_key k l && (is_empty_for old k m (partition_of d) && b))) ≡ true) (list_any-append (λ r. is_digest (record_digest old.records r) d) ns more) w)

-- ---- one record

digest_is : (o : Option (List ℕ)) (e : List ℕ) → is_digest o e ≡ true → o ≡ Some e
digest_is None e h = differ h refl
digest_is (Some d) e h = ap Some (same_digest_is d e h)

-- it was tried, or it is this one
one_part : (t k e b : Bool) → (t || (k && (e && (b || false)))) ≡ true → (t ≡ true) ⊎ ((k ≡ true) × (e ≡ true) × (b ≡ true))
one_part true k e b h = inl refl
one_part false true true true h = inr (refl, refl, refl)
one_part false true true false h = inl h
one_part false true false b h = inl h
one_part false false e b h = inl h

one_cases : (s : Judge) (m : ℕ) (k : ClusterKey) (r : ℕ) (tried : ClusterKey → List ℕ → Bool) (l : ClusterKey) (d : List ℕ) → tried_with_empty tried s m k (r ∷ []) l d ≡ true
    → (tried l d ≡ true) ⊎ ((same_key k l ≡ true) × (is_empty_for s k m (partition_of d) ≡ true) × (record_digest s.records r ≡ Some d))
one_cases s m k r tried l d w = go (one_part (tried l d) (same_key k l) (is_empty_for s k m (partition_of d)) (is_digest (record_digest s.records r) d) w)
  where
    go : (tried l d ≡ true) ⊎ ((same_key k l ≡ true) × (is_empty_for s k m (partition_of d) ≡ true) × (is_digest (record_digest s.records r) d ≡ true))
        → (tried l d ≡ true) ⊎ ((same_key k l ≡ true) × (is_empty_for s k m (partition_of d) ≡ true) × (record_digest s.records r ≡ Some d))
    go (inl h) = inl h
    go (inr h) = inr (h.0, h.1, digest_is (record_digest s.records r) d h.2)

-- there is none of the number
pub tries_absent : (m : ℕ) (k : ClusterKey) (r : ℕ) (s : Judge) (o : Option ℕ) → o ≡ option_map partition_of (record_digest s.records r) → o ≡ None → TriesEmpty m k (r ∷ []) s s
unfolding TriesEmpty
tries_absent m k r s o read none i tried h t = widened s i tried (tried_with_empty tried s m k (r ∷ [])) (λ l d w. inl (go l d (one_cases s m k r tried l d w))) t
  where
    go : (l : ClusterKey) (d : List ℕ) → (tried l d ≡ true) ⊎ ((same_key k l ≡ true) × (is_empty_for s k m (partition_of d) ≡ true) × (record_digest s.records r ≡ Some d)) → tried l d ≡ true
    go l d (inl q) = q
    go l d (inr q) = absurd (no_some (sym none ∙ (read ∙ ap (option_map partition_of) q.2)))

-- its partition wasn't empty everywhere
pub tries_other : (m : ℕ) (k : ClusterKey) (r p : ℕ) (s : Judge) (o : Option ℕ) (b : Bool) → o ≡ option_map partition_of (record_digest s.records r) → o ≡ Some p → b ≡ is_empty_for s k m p → b ≡ false → TriesEmpty m k (r ∷ []) s s
unfolding TriesEmpty
tries_other m k r p s o b read is said off i tried h t = widened s i tried (tried_with_empty tried s m k (r ∷ [])) (λ l d w. inl (go l d (one_cases s m k r tried l d w))) t
  where
    go : (l : ClusterKey) (d : List ℕ) → (tried l d ≡ true) ⊎ ((same_key k l ≡ true) × (is_empty_for s k m (partition_of d) ≡ true) × (record_digest s.records r ≡ Some d)) → tried l d ≡ true
    go l d (inl q) = q
    go l d (inr q) =
        let part : p ≡ partition_of d = some_same (sym is ∙ (read ∙ ap (option_map partition_of) q.2)) in
        differ (subst (λ (x : ℕ). is_empty_for s k m x ≡ true) (sym part) q.1) (sym said ∙ off)

-- the record that a number has
named_of : (rs : Records) (r p : ℕ) (o : Option ℕ) → o ≡ option_map partition_of (record_digest rs r) → o ≡ Some p → (d : List ℕ) × (record_digest rs r ≡ Some d) × (partition_of d ≡ p)
named_of rs r p o read is = go (record_digest rs r) refl (sym read ∙ is)
  where
    go : (q : Option (List ℕ)) → record_digest rs r ≡ q → option_map partition_of q ≡ Some p → (d : List ℕ) × (record_digest rs r ≡ Some d) × (partition_of d ≡ p)
    go None e f = absurd (no_some f)
    go (Some d) e f = (d, e, some_same f)

pub tries_touched : (m : ℕ) (k : ClusterKey) (r p : ℕ) (old new : Judge) (o : Option ℕ) → o ≡ option_map partition_of (record_digest old.records r) → o ≡ Some p → TriesRecord k r p old new → TriesEmpty m k (r ∷ []) old new
unfolding TriesEmpty TriesRecord
tries_touched m k r p old new o read is tries i tried h t =
    let d : (d : List ℕ) × (record_digest old.records r ≡ Some d) × (partition_of d ≡ p) = named_of old.records r p o read is in
    widened new i (tried_with_record tried k d.0) (tried_with_empty tried old m k (r ∷ [])) (λ l e w. inl (go l e d.0 d.1 (one_cases old m k r tried l e w))) (tries i d.0 tried h (record { named = d.1; part = d.2 }) t)
  where
    left : (a b : Bool) → a ≡ true → (a || b) ≡ true
    left true b h = refl
    left false b h = differ h refl

    right : (a b c : Bool) → b ≡ true → c ≡ true → (a || (b && c)) ≡ true
    right true b c x y = refl
    right false true c x y = y
    right false false c x y = x

    go : (l : ClusterKey) (e d : List ℕ) → record_digest old.records r ≡ Some d → (tried l e ≡ true) ⊎ ((same_key k l ≡ true) × (is_empty_for old k m (partition_of e) ≡ true) × (record_digest old.records r ≡ Some e)) → tried_with_record tried k d l e ≡ true
    go l e d named (inl q) = left (tried l e) (same_key k l && bytes_eq d e) q
    go l e d named (inr q) = right (tried l e) (same_key k l) (bytes_eq d e) q.0
        (subst (λ (x : List ℕ). bytes_eq x e ≡ true) (some_same (sym q.2 ∙ named)) (Rattle.journal_readings.proofs.CopyLaws.same_digest_itself e))

pub stops_touched : (s : Judge) (r p : ℕ) (x : Stop) (o : Option ℕ) → o ≡ option_map partition_of (record_digest s.records r) → o ≡ Some p → StopsRecord s r p x → StopsEmpty s x
unfolding StopsRecord StopsEmpty StopsTrying
stops_touched s r p x o read is stops i tried h t =
    let d : (d : List ℕ) × (record_digest s.records r ≡ Some d) × (partition_of d ≡ p) = named_of s.records r p o read is in
    stops i d.0 tried h (record { named = d.1; part = d.2 }) t

-- ---- how it stops

pub emptying_stops : (m : ℕ) (k : ClusterKey) (ns : List ℕ) (old now : Judge) (x y : Stop) → y ≡ x → Emptying m k ns old now → StopsEmpty now x → StopsEmpty old y
unfolding TriesEmpty StopsEmpty StopsTrying
emptying_stops m k ns old now x y same g stops i tried h t =
    subst (λ (z : Stop). StopsParted z (so_far old i)) (sym same) (subst (StopsParted x) (front_kept old now i g.keeps) (stops i (tried_with_empty tried old m k ns) (lines_kept old now i g.keeps h) (g.tries i tried h t)))

-- ---- item by item

-- none, or one
pub empties_none : (m : ℕ) (k : ClusterKey) (o : Option ℕ) (s : Judge) → o ≡ None → TriesEmpty m k (option_to_list o) s s
empties_none m k o s e = (emptying_none m k s (option_to_list o) (ap (λ (q : Option ℕ). option_to_list q) e)).tries

pub empties_one : (m : ℕ) (k : ClusterKey) (r : ℕ) (o : Option ℕ) (old new : Judge) → o ≡ Some r → TriesEmpty m k (r ∷ []) old new → TriesEmpty m k (option_to_list o) old new
empties_one m k r o old new e h = subst (λ (q : Option ℕ). TriesEmpty m k (option_to_list q) old new) (sym e) h

pub emptying_next : (m : ℕ) (k : ClusterKey) (ns : List ℕ) (a : ℕ) (r : Option ℕ) (old now next : Judge) → r ≡ slice_get ns a → Emptying m k (take a ns) old now → TriesEmpty m k (option_to_list r) now next → KeepsKnown now next → Emptying m k (take (a + 1) ns) old next
emptying_next m k ns a r old now next got g tries keeps = subst (λ (xs : List ℕ). Emptying m k xs old next) (ap (λ (o : Option ℕ). take a ns ++ option_to_list o) got ∙ sym (take_item ns a)) (emptying_more m k (take a ns) (option_to_list r) old now next g tries keeps)

pub emptying_all : (m : ℕ) (k : ClusterKey) (ns : List ℕ) (a c : ℕ) (old now : Judge) → c ≡ length ns → c ≤ a → Emptying m k (take a ns) old now → Emptying m k ns old now
emptying_all m k ns a c old now count done g = subst (λ (xs : List ℕ). Emptying m k xs old now) (take_whole ns a (omega (arith, count, done))) g

-- the lists stay
pub written_same : (old now : Judge) (k : ClusterKey) → KeepsKnown old now → written_list (kept_view now k) ≡ written_list (kept_view old k)
written_same old now k keeps = view_same (λ o. written_list o) (λ a b h. ap (λ (x : View). x.written.items) h.rest) (kept_view old k) (kept_view now k) (keeps.views k)

written_got : (o : Option View) (a : ℕ) → written_item o a ≡ slice_get (written_list o) a
written_got None a = refl
written_got (Some x) a = refl

changed_got : (o : Option Node) (a : ℕ) → changed_item o a ≡ slice_get (stay_list o) a
changed_got None a = refl
changed_got (Some x) a = refl

pub written_read : (old now : Judge) (k : ClusterKey) (a : ℕ) (r : Option ℕ) → KeepsKnown old now → r ≡ written_item (kept_view now k) a → r ≡ slice_get (written_list (kept_view old k)) a
written_read old now k a r keeps read = read ∙ (written_got (kept_view now k) a ∙ ap (λ (xs : List ℕ). slice_get xs a) (written_same old now k keeps))

pub stay_same : (old now : Judge) (n : ℕ) → KeepsKnown old now → stay_list (node_at now n) ≡ stay_list (node_at old n)
stay_same old now n keeps = ap (λ (s : Judge). stay_list (node_at s n)) keeps.rest

pub changed_read : (old now : Judge) (n a : ℕ) (r : Option ℕ) → KeepsKnown old now → r ≡ changed_item (node_at now n) a → r ≡ slice_get (stay_list (node_at old n)) a
changed_read old now n a r keeps read = read ∙ (changed_got (node_at now n) a ∙ ap (λ (xs : List ℕ). slice_get xs a) (stay_same old now n keeps))

-- ---- member by member

pub stay_in_same : (old now : Judge) (k : ClusterKey) (n : ℕ) → KeepsKnown old now → stay_in now k n ≡ stay_in old k n
stay_in_same old now k n keeps = ap (λ (s : Judge). stay_in s k n) keeps.rest

-- whether the node is in the view
in_view_so : (k : ClusterKey) (o : Option ClusterKey) → o ≡ Some k → is_view_key o k ≡ true
in_view_so k o e = ap (λ (o : Option ClusterKey). is_view_key o k) e ∙ same_key_itself k

in_view_is : (k : ClusterKey) (o : Option ClusterKey) → is_view_key o k ≡ true → o ≡ Some k
in_view_is k None e = differ e refl
in_view_is k (Some l) e = ap Some (same_key_is l k e)

pub member_apart : (m : ℕ) (k : ClusterKey) (n : ℕ) (s : Judge) (b : Bool) → IsTrue b ↔ (view_at s n ≡ Some k) → b ≡ false → TriesEmpty m k (stay_in s k n) s s
member_apart m k n s b tells off = go (is_view_key (view_at s n) k) refl
  where
    go : (a : Bool) → is_view_key (view_at s n) k ≡ a → TriesEmpty m k (cond a (stay_list (node_at s n)) []) s s
    go true e = differ (tells.1 (in_view_is k (view_at s n) e)) off
    go false e = tries_none m k s

pub member_here : (m : ℕ) (k : ClusterKey) (n : ℕ) (old new : Judge) (b : Bool) → IsTrue b ↔ (view_at old n ≡ Some k) → b ≡ true → TriesEmpty m k (stay_list (node_at old n)) old new → TriesEmpty m k (stay_in old k n) old new
member_here m k n old new b tells on h = subst (λ (a : Bool). TriesEmpty m k (cond a (stay_list (node_at old n)) []) old new) (sym (in_view_so k (view_at old n) (tells.0 on))) h

pub member_next : (m : ℕ) (k : ClusterKey) (ws : List ℕ) (ms : List Member) (a : ℕ) (x : Member) (old now next : Judge) → a < length ms → x ≡ get_or ms a x
    → Emptying m k (ws ++ flat_map (λ y. stay_in old k y.id) (take a ms)) old now → TriesEmpty m k (stay_in now k x.id) now next → KeepsKnown now next
    → Emptying m k (ws ++ flat_map (λ y. stay_in old k y.id) (take (a + 1) ms)) old next
member_next m k ws ms a x old now next within read g tries keeps =
    subst (λ (xs : List ℕ). Emptying m k xs old next)
    (append_assoc ws (flat_map (λ y. stay_in old k y.id) (take a ms)) (stay_in old k x.id)
    ∙ ap (λ (xs : List ℕ). ws ++ xs) (ap (λ (ys : List ℕ). flat_map (λ y. stay_in old k y.id) (take a ms) ++ ys) (sym (append-nil (stay_in old k x.id))) ∙ (sym (flat_map-append (λ (y : Member). stay_in old k y.id) (take a ms) (x ∷ [])) ∙ ap (flat_map (λ (y : Member). stay_in old k y.id)) (ap (λ (y : Member). take a ms ++ y ∷ []) read ∙ sym (take_more ms a x within)))))
    (emptying_more m k (ws ++ flat_map (λ y. stay_in old k y.id) (take a ms)) (stay_in old k x.id) old now next g (subst (λ (xs : List ℕ). TriesEmpty m k xs now next) (stay_in_same old now k x.id g.keeps) tries) keeps)

-- the members of a view that isn't known are none
pub no_members : (m : ℕ) (k : ClusterKey) (old now : Judge) (r : Option (List Member)) → r ≡ option_map (λ (x : View). x.members) (kept_view now k) → r ≡ None → Emptying m k (written_list (kept_view old k)) old now
    → Emptying m k (written_list (kept_view old k) ++ flat_map (λ y. stay_in old k y.id) (members_in (kept_view old k))) old now
no_members m k old now r read none g = subst (λ (xs : List ℕ). Emptying m k xs old now) (go (kept_view old k) (kept_view now k) (g.keeps.views k) (sym read ∙ none)) g
  where
    go : (o q : Option View) → Both SameButStands o q → option_map (λ (x : View). x.members) q ≡ None → written_list o ≡ written_list o ++ flat_map (λ (y : Member). stay_in old k y.id) (members_in o)
    go None q h e = refl
    go (Some a) (Some b) h e = absurd (no_some (sym e))
    go (Some a) None h e = absurd h

-- the members that are read are the view's
pub members_read : (old now : Judge) (k : ClusterKey) (ms : List Member) (r : Option (List Member)) → KeepsKnown old now → r ≡ option_map (λ (x : View). x.members) (kept_view now k) → r ≡ Some ms → ms ≡ members_in (kept_view old k)
members_read old now k ms r keeps read is = go (kept_view old k) (kept_view now k) (keeps.views k) (sym is ∙ read)
  where
    go : (o q : Option View) → Both SameButStands o q → Some ms ≡ option_map (λ (x : View). x.members) q → ms ≡ members_in o
    go None None h e = absurd (no_some (sym e))
    go (Some a) (Some b) h e = some_same e ∙ ap (λ (x : View). x.members) h.rest
    go None (Some b) h e = absurd h
    go (Some a) None h e = absurd h

pub members_first : (m : ℕ) (k : ClusterKey) (ws : List ℕ) (ns : List ℕ) (old now : Judge) → ns ≡ [] → Emptying m k ws old now → Emptying m k (ws ++ ns) old now
members_first m k ws ns old now e g = subst (λ (xs : List ℕ). Emptying m k xs old now) (sym (ap (λ (ys : List ℕ). ws ++ ys) e ∙ append-nil ws)) g

-- each member was tried
pub members_done : (m : ℕ) (k : ClusterKey) (ms items : List Member) (a : ℕ) (old between now : Judge) (r : Option (List Member)) → KeepsKnown old between → r ≡ option_map (λ (x : View). x.members) (kept_view between k) → r ≡ Some ms → items ≡ ms
    → length items ≤ a → Emptying m k (written_list (kept_view old k) ++ flat_map (λ y. stay_in old k y.id) (take a items)) old now
    → Emptying m k (written_list (kept_view old k) ++ flat_map (λ y. stay_in old k y.id) (members_in (kept_view old k))) old now
members_done m k ms items a old between now r keeps read is items_are done g =
    subst (λ (ys : List Member). Emptying m k (written_list (kept_view old k) ++ flat_map (λ (y : Member). stay_in old k y.id) ys) old now) (whole items a done ∙ (items_are ∙ members_read old between k ms r keeps read is)) g
  where
    whole : (xs : List Member) (b : ℕ) → length xs ≤ b → take b xs ≡ xs
    whole [] zero e = refl
    whole [] (suc b) e = refl
    whole (x ∷ xs) zero e = absurd (omega (arith, e))
    whole (x ∷ xs) (suc b) e = ap (λ (ys : List Member). x ∷ ys) (whole xs b (omega (arith, e)))
