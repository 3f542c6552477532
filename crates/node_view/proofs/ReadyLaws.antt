-- A view that was ready for a step of a transaction is ready to resolve it.
use Rattle.std.proofs.Common.{◌≡◌, ◌+◌, ℕ, Bool, true, false, List, [], ◌∷◌, Option, Some, None, is_some, option_map, refl, sym, ap, subst, ◌∙◌}
use Rattle.std.specs.Prelude.{IsTrue, ◌↔◌, unwrap_or}
use Rattle.std.proofs.lemmas.Option.{same_Some}
use Rattle.conflict_order.specs.declared.policy.Policy.{Policy}
use Rattle.conflict_order.specs.declared.version.Version.{Version}
use Rattle.conflict_order.specs.declared.want.Want.{Want}
use Rattle.cluster_types.specs.Partitions.{partition_of}
use Rattle.record_store.specs.Store as held
use Rattle.node_rules.specs.Copies.{is_nil}
use Rattle.node_rules.specs.Facts.{Facts, list_at, view_key}
use Rattle.node_rules.specs.Notes.{write_applied, closed}
use Rattle.node_rules.specs.Tables.{changed_if}
use Rattle.node_rules.specs.Transactions as rules
use Rattle.node_rules.specs.Transactions.{Transaction, Transactions, transaction}
use Rattle.node_view.specs.declared.view_step.Outcome.{Outcome}
use Rattle.node_view.specs.declared.view_step.Outcome.TheVariants as outcome
use Rattle.node_view.specs.declared.view_step.ViewStep.TheVariants as step
use Rattle.node_view.specs.declared.view_step.Writing.{Writing}
use Rattle.node_view.specs.Fits.{FitsOutcome, IsReady, IsReadyToResolve, ResolvesTransaction}
use Rattle.node_view.specs.Plans.{transaction_digest, with_answer, with_opened, wrote}
use Rattle.node_view.specs.Rooms.{HasRoomForOutcome}
use Rattle.node_view.specs.Views.{IsNodeInView, ViewRoom, Viewed, digest_in, facts_in}
use Rattle.node_view.proofs.OutcomeLaws.{answers, opens}
use Rattle.node_view.proofs.ResolveLaws.{found_changed}
use Rattle.node_view.proofs.SightLaws.{sees}

-- ---- digests

digest_found : (t : Option Transaction) → transaction_digest t ≡ unwrap_or (option_map (λ (x : Transaction). x.digest) t) []
digest_found None = refl
digest_found (Some t) = refl

-- the digest of a transaction, by the facts and by the view
pub digest_seen : (f : Facts) (v : Viewed) (s : held.StoreWithRoom) (number : ℕ) → IsNodeInView f v s → digest_in v number ≡ transaction_digest (transaction f.transactions number)
digest_seen f v s number h =
    sym (ap (λ (ts : Transactions). transaction_digest (transaction ts number)) (sees f v h.view.viewed).transactions ∙ digest_found (transaction v.transactions number))

-- an answer leaves it
answered_number : (by : Policy) (from : ℕ) (x : Option Version) (t : Transaction) (b : Bool) → (changed_if (rules.answered by from x) t b).number ≡ t.number
answered_number by from x t true = refl
answered_number by from x t false = refl

answered_digest : (by : Policy) (from : ℕ) (x : Option Version) (t : Transaction) (b : Bool) → (changed_if (rules.answered by from x) t b).digest ≡ t.digest
answered_digest by from x t true = refl
answered_digest by from x t false = refl

digest_mapped : (h : Transaction → Transaction) → ((t : Transaction) → (h t).digest ≡ t.digest) → (t : Option Transaction)
    → unwrap_or (option_map (λ (x : Transaction). x.digest) (option_map h t)) [] ≡ unwrap_or (option_map (λ (x : Transaction). x.digest) t) []
digest_mapped h same None = refl
digest_mapped h same (Some t) = same t

pub digest_kept : (v u : Viewed) (from number : ℕ) (x : Option Version) → u ≡ record v { transactions = rules.answering v.by v.transactions from number x } → digest_in u number ≡ digest_in v number
digest_kept v u from number x is =
    let change : Transaction → Transaction = λ t. changed_if (rules.answered v.by from x) t (rules.awaits_answer t from) in
    ap (λ (z : Viewed). digest_in z number) is
    ∙ ap (λ (t : Option Transaction). unwrap_or (option_map (λ (y : Transaction). y.digest) t) []) (found_changed change (λ t. answered_number v.by from x t (rules.awaits_answer t from)) number v.transactions)
    ∙ digest_mapped change (λ t. answered_digest v.by from x t (rules.awaits_answer t from)) (transaction v.transactions number)

-- ---- the last answer came

pub ready_with_answer : (v u : Viewed) (s : held.StoreWithRoom) (from number : ℕ) (x : Option Version) (o : Outcome) → u ≡ record v { transactions = rules.answering v.by v.transactions from number x }
    → IsReady v s (step.Resolved from number x o) → IsReadyToResolve u s number o
ready_with_answer v u s from number x o is h =
    let same : with_answer (facts_in v s) from number x ≡ facts_in u s
    = ap (λ (by : Policy). record (facts_in v s) { transactions = rules.answering by v.transactions from number x }) (sym h.node.view.policy) ∙ ap (λ (z : Viewed). facts_in z s) (sym is) in
    record {
      node = subst (λ (g : Facts). IsNodeInView g u s) same (answers (facts_in v s) v u s from number x is h.node);
      fits = subst (λ (g : Facts). ResolvesTransaction g number o) same h.fits;
      room = subst (λ (r : ViewRoom). HasRoomForOutcome r s.spare (digest_in u number) o) (ap (λ (z : Viewed). z.room) (sym is))
          (subst (λ (d : List ℕ). HasRoomForOutcome v.room s.spare d o) (sym (digest_kept v u from number x is)) h.room);
    }

-- ---- it opened

fits_still : (f : Facts) (ts : Transactions) (t : Transaction) (o : Outcome) → FitsOutcome f t o → FitsOutcome (record f { transactions = ts }) t o
fits_still f ts t outcome.Read h = tt
fits_still f ts t (outcome.Write w) h = record { write = h.write; unapplied = h.unapplied; resolved = h.resolved; version = h.version; kept = h.kept; to = h.to; count = h.count }

room_still : (room : ViewRoom) (k : ℕ) (spare : List ℕ) (digest : List ℕ) (o : Outcome) → HasRoomForOutcome room spare digest o → HasRoomForOutcome (record room { transactions = k }) spare digest o
room_still room k spare digest outcome.Read h = tt
room_still room k spare digest (outcome.Write w) h = record { store = h.store; applies = h.applies }

pub digest_opened : (v : Viewed) (number : ℕ) (t : Transaction) → transaction v.transactions number ≡ Some t → digest_in v number ≡ t.digest
digest_opened v number t found = ap (λ (o : Option Transaction). unwrap_or (option_map (λ (y : Transaction). y.digest) o) []) found

pub ready_with_opened : (v u : Viewed) (s : held.StoreWithRoom) (number : ℕ) (digest : List ℕ) (want : Want) (best : Option Version) (asked : List ℕ) (o : Outcome) (k : ℕ)
    → u ≡ record v { transactions = rules.opening v.transactions (rules.new_transaction (v.transactions.opened + 1) digest want best asked); room = record v.room { transactions = k } }
    → transaction u.transactions number ≡ Some (rules.new_transaction (v.transactions.opened + 1) digest want best asked)
    → IsReady v s (step.Opened digest want best asked (Some o)) → IsReadyToResolve u s number o
ready_with_opened v u s number digest want best asked o k is found h =
    let t = rules.new_transaction (v.transactions.opened + 1) digest want best asked in
    let ts = rules.opening v.transactions t in
    let same : with_opened (facts_in v s) digest want best asked ≡ facts_in u s = ap (λ (z : Viewed). facts_in z s) (sym is) in
    let fits : FitsOutcome (facts_in u s) t o = subst (λ (g : Facts). FitsOutcome g t o) same (fits_still (facts_in v s) ts t o (h.fits.outcome_of o refl)) in
    record {
      node = subst (λ (g : Facts). IsNodeInView g u s) same (opens (facts_in v s) v u s digest want best asked (record v.room { transactions = k }) is h.node);
      fits = record {
        open_one = ap is_some found;
        outcome_of = λ x e. let y : t ≡ x = same_Some t x (sym found ∙ e) in subst (λ (z : Transaction). FitsOutcome (facts_in u s) z o) y fits;
      };
      room = subst (λ (r : ViewRoom). HasRoomForOutcome r s.spare (digest_in u number) o) (ap (λ (z : Viewed). z.room) (sym is))
          (subst (λ (d : List ℕ). HasRoomForOutcome (record v.room { transactions = k }) s.spare d o) (sym (digest_opened u number t found)) (room_still v.room k s.spare digest o (h.room.1 o refl)));
    }

-- ---- a write is applied

pub not_empty : (xs : List ℕ) (b : Bool) → (IsTrue b ↔ (xs ≡ [])) → b ≡ false → is_nil xs ≡ false
not_empty [] b h e = absurd (let wrong : b ≡ true = h.1 refl in cc)
not_empty (x ∷ xs) b h e = refl

pub wrote_last : (f : Facts) (number : ℕ) (digest : List ℕ) (w : Writing) → w.to ≡ [] → wrote f number digest w ≡ closed (write_applied f (view_key f) (list_at f (partition_of digest)) number digest w.version) number
wrote_last f number digest w e = rw e refl

pub wrote_on : (f : Facts) (number : ℕ) (digest : List ℕ) (w : Writing) → is_nil w.to ≡ false → wrote f number digest w ≡ write_applied f (view_key f) (list_at f (partition_of digest)) number digest w.version
wrote_on f number digest w e = rw e refl
