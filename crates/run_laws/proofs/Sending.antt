-- A row that is sent is read as it is, where it has its ranges.
use Rattle.std.proofs.Common.{◌≡◌, ℕ, ◌==◌, Bool, true, false, List, [], ◌∷◌, Option, Some, refl, sym, ◌∙◌, subst, is_none}
use Rattle.std.specs.Prelude.{find, option_map, unwrap_or, if◌then◌else◌}
use Rattle.cluster_types.specs.declared.cluster_key.ClusterKey.{ClusterKey}
use Rattle.wire_messages.specs.declared.message.Message.{Message}
use Rattle.wire_messages.specs.declared.message.Message.TheVariants as message
use Rattle.wire_messages.specs.Decoding.{message_of}
use Rattle.wire_messages.specs.Proper.{IsProper}
use Rattle.wire_messages.specs.Spelling.{spelling}
use Rattle.wire_messages.proofs.DecodingLaws.{read_back}
use Rattle.node_rules.specs.Copies.{Row}
use Rattle.node_rules.specs.Map.{row_of_member, lacks}
use Rattle.node_rules.specs.declared.member_row.MemberRow.{MemberRow}
use Rattle.cluster_laws.proofs.At.{number_same, differ}
use Rattle.run_laws.specs.Tied.{Each}
use Rattle.run_laws.specs.Chronicle.{Chronicle, IsRowOf}

-- what a message that carries a row says
abbrev Says : Chronicle → ℕ → Option Message → Type 0
Says c a (Some (message.State k wants row)) = IsRowOf c a k row
Says c a _ = Unit {0}

pub row_said : (c : Chronicle) (a : ℕ) (k : ClusterKey) (wants : Bool) (row : Row) → IsProper (message.State k wants row) → IsRowOf c a k row
    → (j : ClusterKey) (w : Bool) (r : Row) → message_of (spelling (message.State k wants row)) ≡ Some (message.State j w r) → IsRowOf c a j r
row_said c a k wants row fit h j w r e = subst (Says c a) (sym (read_back (message.State k wants row) fit) ∙ e) h

-- the row that a node sends is its own
pub own_said : (c : Chronicle) (k : ClusterKey) (rows : List MemberRow) (me : ℕ) → lacks rows me ≡ false → Each (λ (r : MemberRow). IsRowOf c r.node k r.row) rows → IsRowOf c me k (unwrap_or (row_of_member rows me) [])
own_said c k [] me e h = differ refl e
own_said c k (r ∷ rs) me e h = go (r.node == me) refl e (λ z. own_said c k rs me z h.1)
  where
    go : (b : Bool) → (r.node == me) ≡ b → is_none (option_map (λ (x : MemberRow). x.row) (if b then Some r else find (λ (x : MemberRow). x.node == me) rs)) ≡ false → (lacks rs me ≡ false → IsRowOf c me k (unwrap_or (row_of_member rs me) []))
        → IsRowOf c me k (unwrap_or (option_map (λ (x : MemberRow). x.row) (if b then Some r else find (λ (x : MemberRow). x.node == me) rs)) [])
    go true i z rest = subst (λ (n : ℕ). IsRowOf c n k r.row) (number_same r.node me i) h.0
    go false i z rest = rest z
