-- Each node that a line of a journal names is declared, so that every journal has its shape.
use Rattle.std.proofs.Common.{◌≡◌, ℕ, zero, suc, ◌==◌, inl, inr, ⊎_elim, Bool, true, false, List, [], ◌∷◌, ◌++◌, Some, refl, sym, ap, ◌∙◌, if◌then◌else◌}
use Rattle.std.specs.Prelude.{slice_get}
use Rattle.std.specs.List.{list_all, concat}
use Rattle.cluster_types.specs.Members.{ids_of}
use Rattle.cluster_types.specs.Partitions.{partition_count}
use Rattle.script_lang.specs.declared.script.HeaderLine.{HeaderLine}
use Rattle.script_lang.specs.declared.script.HeaderLine.TheVariants as header
use Rattle.journal_lines.specs.declared.refusal.Refusal.{Refusal}
use Rattle.journal_lines.specs.declared.refusal.Refusal.TheVariants as refusal
use Rattle.wire_messages.specs.declared.reply.ReplyBody.{ReplyBody}
use Rattle.wire_messages.specs.declared.reply.ReplyBody.TheVariants as reply
use Rattle.wire_messages.specs.declared.scan.ScanRefusal.{ScanRefusal}
use Rattle.wire_messages.specs.declared.scan.ScanRefusal.TheVariants as scan_refusal
use Rattle.journal_lines.specs.declared.line.Line.{Line}
use Rattle.journal_lines.specs.declared.line.Line.TheVariants as line
use Rattle.journal_readings.specs.Lines.{has_node}
use Rattle.cluster_rules.specs.Opening.{Header, declared_nodes, journal_header_line, header_lines}
use Rattle.journal_readings.specs.Shape.{Shape, end_nodes, named_nodes, names_declared, refusal_nodes, reply_nodes, scan_refusal_nodes}
use Rattle.cluster_rules.specs.Steps.{Step, all_lines}
use Rattle.cluster_rules.proofs.WorldReadings.{nodes_agree}
use Rattle.cluster_laws.specs.Journals.{journal}
use Rattle.cluster_laws.proofs.At.{and_both, and_left, and_right, differ, some_same, no_some}
use Rattle.key_laws.specs.Ends.{IsOneOf, AllName, AllNodes, CauseNames, IsEnd, LineNames, ReplyNames, ScanCauseNames}
use Rattle.key_laws.proofs.Addressed.{or_left, or_right}
use Rattle.key_laws.proofs.Frames.{num_eq}
use Rattle.key_laws.proofs.NamedSteps.{allowed_named}
use Rattle.node_rules.specs.Messages.{client}
use Rattle.run_laws.specs.Claims.{OfEveryJournal}
use Rattle.run_laws.specs.Taken.{Taken}
use Rattle.run_laws.proofs.EveryJournal.{every_journal}
use Rattle.run_laws.proofs.Premised.{taken_behind}
use Rattle.run_laws.proofs.Shapes.{entries_agree, stands_in_order}

-- ---- a line

-- all these nodes are declared
abbrev Pass : List ℕ → List ℕ → Type 0
Pass ns ms = list_all (has_node ns) ms ≡ true

pass_all : (ns ms : List ℕ) → AllNodes (IsOneOf ns) ms → Pass ns ms
pass_all ns [] h = refl
pass_all ns (m ∷ ms) h = and_both (has_node ns m) _ h.0 (pass_all ns ms h.1)

pass_one : (ns : List ℕ) (n : ℕ) → IsOneOf ns n → Pass ns (n ∷ [])
pass_one ns n h = and_both (has_node ns n) true h refl

pass_append : (ns xs ys : List ℕ) → Pass ns xs → Pass ns ys → Pass ns (xs ++ ys)
pass_append ns [] ys a b = b
pass_append ns (x ∷ xs) ys a b = and_both (has_node ns x) _ (and_left (has_node ns x) _ a) (pass_append ns xs ys (and_right (has_node ns x) _ a) b)

pass_end : (ns : List ℕ) (n : ℕ) → IsEnd (IsOneOf ns) n → Pass ns (end_nodes n)
pass_end ns n h = go (n == 0) refl
  where
    go : (b : Bool) → (n == 0) ≡ b → list_all (has_node ns) (if b then [] else (n ∷ [])) ≡ true
    go true e = refl
    go false e = ⊎_elim (λ (q : n ≡ client). differ (num_eq n 0 q) e) (λ d. pass_one ns n d) h

pass_ends : (ns : List ℕ) (a b : ℕ) → IsEnd (IsOneOf ns) a × IsEnd (IsOneOf ns) b → Pass ns (end_nodes a ++ end_nodes b)
pass_ends ns a b h = pass_append ns (end_nodes a) (end_nodes b) (pass_end ns a h.0) (pass_end ns b h.1)

pass_cause : (ns : List ℕ) (cause : Refusal) → CauseNames (IsOneOf ns) cause → Pass ns (refusal_nodes cause)
pass_cause ns (refusal.Exchanging n) h = pass_one ns n h
pass_cause ns (refusal.NotMaster n) h = pass_one ns n h
pass_cause ns _ h = refl

pass_reply : (ns : List ℕ) (body : ReplyBody) → ReplyNames (IsOneOf ns) body → Pass ns (reply_nodes body)
pass_reply ns (reply.Exchanging n) h = pass_one ns n h
pass_reply ns (reply.NotMaster n) h = pass_one ns n h
pass_reply ns _ h = refl

pass_scan_cause : (ns : List ℕ) (cause : ScanRefusal) → ScanCauseNames (IsOneOf ns) cause → Pass ns (scan_refusal_nodes cause)
pass_scan_cause ns (scan_refusal.Exchanging n) h = pass_one ns n h
pass_scan_cause ns (scan_refusal.NotMaster n) h = pass_one ns n h
pass_scan_cause ns _ h = refl

pass_more : (ns : List ℕ) (n : ℕ) (ms : List ℕ) → IsOneOf ns n → Pass ns ms → Pass ns (n ∷ ms)
pass_more ns n ms h i = and_both (has_node ns n) _ h i

line_passes : (ns : List ℕ) (l : Line) → LineNames (IsOneOf ns) l → Pass ns (named_nodes l)
unfolding named_nodes
line_passes ns (line.Clock n time) h = pass_one ns n h
line_passes ns (line.Groups groups) h = pass_all ns (concat groups) h
line_passes ns (line.Tick n) h = pass_one ns n h
line_passes ns (line.Stop n) h = pass_one ns n h
line_passes ns (line.Start n) h = pass_one ns n h
line_passes ns (line.Down n) h = pass_one ns n h
line_passes ns (line.Up n) h = pass_one ns n h
line_passes ns (line.Quiesce n) h = pass_one ns n h
line_passes ns (line.Unquiesce n) h = pass_one ns n h
line_passes ns (line.Deliver i a b) h = pass_ends ns a b h
line_passes ns (line.Repeat i a b) h = pass_ends ns a b h
line_passes ns (line.Cut i a b size) h = pass_ends ns a b h
line_passes ns (line.Lost i) h = refl
line_passes ns (line.Blocked i) h = refl
line_passes ns (line.NoMessage i) h = refl
line_passes ns (line.Sent i a b bytes) h = ⊎_elim (λ x. pass_ends ns a b (inr x.sender, x.receiver)) (λ x. pass_ends ns a b (inl x.sender, inr x.receiver)) h.ends
line_passes ns (line.Full i) h = refl
line_passes ns (line.Short b) h = pass_end ns b h
line_passes ns (line.Stale b) h = pass_end ns b h
line_passes ns (line.Spent b) h = pass_end ns b h
line_passes ns (line.Promise n k) h = pass_one ns n h
line_passes ns (line.Enter n k ms) h = pass_more ns n (ids_of ms) h.0 (pass_all ns (ids_of ms) h.1)
line_passes ns (line.Exchanged n k) h = pass_one ns n h
line_passes ns (line.Opened n k t d a) h = pass_one ns n h
line_passes ns (line.Refused n d cause) h = pass_more ns n (refusal_nodes cause) h.0 (pass_cause ns cause h.1)
line_passes ns (line.Value n k t d v) h = pass_one ns n h
line_passes ns (line.Apply n k t d v) h = pass_one ns n h
line_passes ns (line.Done n k t) h = pass_one ns n h
line_passes ns (line.Aborted n k t) h = pass_one ns n h
line_passes ns (line.Doubt n k t) h = pass_one ns n h
line_passes ns (line.Merge n k d v) h = pass_one ns n h
line_passes ns (line.Handed n k p) h = pass_one ns n h
line_passes ns (line.Settled n k p) h = pass_one ns n h
line_passes ns (line.Learn n k p) h = pass_one ns n h
line_passes ns (line.Drop n k p) h = pass_one ns n h
line_passes ns (line.Map n k p ms a) h = pass_more ns n (a ∷ ids_of ms) h.0 (pass_more ns a (ids_of ms) h.1.0 (pass_all ns (ids_of ms) h.1.1))
line_passes ns (line.Mapless n cause) h = pass_more ns n (refusal_nodes cause) h.0 (pass_cause ns cause h.1)
line_passes ns (line.Place p ms) h = pass_all ns (ids_of ms) h
line_passes ns (line.Hash d p) h = refl
line_passes ns (line.Holds n d v) h = pass_one ns n h
line_passes ns (line.Client n d) h = pass_one ns n h
line_passes ns (line.NoMap p) h = refl
line_passes ns (line.Table k) h = refl
line_passes ns (line.Calm rounds) h = refl
line_passes ns (line.Proxy n k x d a acting) h = pass_more ns n (acting ∷ []) h.0 (pass_one ns acting h.1.node)
line_passes ns (line.Proxied n k x body) h = pass_more ns n (reply_nodes body) h.0 (pass_reply ns body h.1)
line_passes ns (line.Unproxied n k x) h = pass_one ns n h
line_passes ns line.CallFull h = refl
line_passes ns (line.Call q n d a) h = pass_one ns n h
line_passes ns (line.NoOpen q) h = refl
line_passes ns (line.Again q n) h = pass_one ns n h
line_passes ns (line.Reply q n body) h = pass_more ns n (reply_nodes body) h.0 (pass_reply ns body h.1)
line_passes ns (line.Scan s n p) h = pass_one ns n h
line_passes ns (line.NoScan s) h = refl
line_passes ns (line.Rescan s) h = refl
line_passes ns (line.Page s count) h = refl
line_passes ns (line.Scanned s n k p count) h = pass_one ns n h
line_passes ns (line.Record s d v) h = refl
line_passes ns (line.Unscanned s cause) h = pass_scan_cause ns cause h
line_passes ns _ h = absurd h

-- ---- a journal

steps_pass : (ns : List ℕ) (ls : List Line) → AllName (IsOneOf ns) ls → (i : ℕ) (l : Line) → slice_get ls i ≡ Some l → Pass ns (named_nodes l)
steps_pass ns [] h i l e = no_some e
steps_pass ns (x ∷ ls) h zero l e = ap (λ (y : Line). list_all (has_node ns) (named_nodes y)) (sym (some_same e)) ∙ line_passes ns x h.0
steps_pass ns (x ∷ ls) h (suc i) l e = steps_pass ns ls h.1 i l e

-- the nodes that a header declares are among these
abbrev Among : List ℕ → List ℕ → Type 0
Among ns ms = (n : ℕ) → has_node ms n ≡ true → has_node ns n ≡ true

header_passes : (ns : List ℕ) (x : HeaderLine) (h : Header) → Among ns (declared_nodes (x ∷ h)) → Pass ns (named_nodes (journal_header_line x))
unfolding named_nodes
header_passes ns (header.Script version) h a = refl
header_passes ns (header.Factor factor) h a = refl
header_passes ns (header.Node n rack) h a = pass_one ns n (a n (or_left (n == n) _ (num_eq n n refl)))
header_passes ns (header.Policy by) h a = refl

others_among : (ns : List ℕ) (x : HeaderLine) (h : Header) → Among ns (declared_nodes (x ∷ h)) → Among ns (declared_nodes h)
others_among ns (header.Script version) h a n e = a n e
others_among ns (header.Factor factor) h a n e = a n e
others_among ns (header.Node m rack) h a n e = a n (or_right (m == n) _ e)
others_among ns (header.Policy by) h a n e = a n e

journal_passes : (ns : List ℕ) (h : Header) (ls : List Line) → Among ns (declared_nodes h) → AllName (IsOneOf ns) ls → (i : ℕ) (l : Line) → slice_get (header_lines h ++ ls) i ≡ Some l → Pass ns (named_nodes l)
journal_passes ns [] ls a n i l e = steps_pass ns ls n i l e
journal_passes ns (x ∷ h) ls a n zero l e = ap (λ (y : Line). list_all (has_node ns) (named_nodes y)) (sym (some_same e)) ∙ header_passes ns x h a
journal_passes ns (x ∷ h) ls a n (suc i) l e = journal_passes ns h ls (others_among ns x h a) n i l e

named_at : (h : Header) (ss : List Step) → Taken h ss → (i : ℕ) (l : Line) → slice_get (journal (header_lines h) (all_lines ss)) i ≡ Some l → names_declared (journal (header_lines h) (all_lines ss)) l ≡ true
named_at h ss t i l e = ap (λ (ns : List ℕ). list_all (has_node ns) (named_nodes l)) (nodes_agree h (all_lines ss) (taken_behind h ss t))
    ∙ journal_passes (declared_nodes h) h (all_lines ss) (λ n d. d) (allowed_named partition_count h ss t.header t.allowed).names i l e

shape_of : (h : Header) (ss : List Step) → Taken h ss → Shape (journal (header_lines h) (all_lines ss))
shape_of h ss t = record {
  header = (stands_in_order.steps h ss t).header;
  declared_once = (stands_in_order.steps h ss t).declared_once;
  named = named_at h ss t;
  one_list = (entries_agree.steps h ss t).one_list;
  falling = (entries_agree.steps h ss t).falling;
  entered = (entries_agree.steps h ss t).entered;
  in_view = (entries_agree.steps h ss t).in_view;
  exchanged = (stands_in_order.steps h ss t).exchanged;
}

pub shapes : OfEveryJournal Shape
shapes = every_journal Shape shape_of
