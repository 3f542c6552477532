-- What stands last in a line, in one field or more.
use Rattle.std.proofs.Common.{◌≡◌, ℕ, Bool, true, false, cond, List, [], ◌∷◌, Option, Some, None, refl, ap, ◌∙◌, subst}
use Rattle.std.specs.Prelude.{codes}
use Rattle.std.specs.Fmt.{decimal}
use Rattle.std.specs.Option.{option_and_then}
use Rattle.std.proofs.lemmas.Option.{none-some, same_Some, option_and_then_some}
use Rattle.conflict_order.specs.declared.version.Version.{Version}
use Rattle.cluster_types.specs.Texts.{node_text}
use Rattle.wire_messages.specs.Nodes.{IsId}
use Rattle.wire_messages.specs.Numbers.{IsNumber}
use Rattle.wire_messages.specs.Requests.{IsReplyBody, IsRefusal}
use Rattle.wire_messages.specs.Versions.{IsOptionVersion}
use Rattle.wire_messages.specs.declared.reply.ReplyBody.{ReplyBody}
use Rattle.wire_messages.specs.declared.reply.ReplyBody.TheVariants as reply
use Rattle.wire_messages.specs.declared.scan.ScanRefusal.{ScanRefusal}
use Rattle.wire_messages.specs.declared.scan.ScanRefusal.TheVariants as scan_refusal
use Rattle.journal_lines.specs.declared.refusal.Refusal.{Refusal}
use Rattle.journal_lines.specs.declared.refusal.Refusal.TheVariants as refusal
use Rattle.journal_reader.specs.Fields.{with_field, at_end, parsed_node, number_of, rack_of}
use Rattle.journal_text.specs.LineFields.{rack_fields, cause_fields, reply_fields, scan_refusal_fields}
use Rattle.journal_lines.specs.Proper.{IsRack, IsCause, IsMapless}
use Rattle.journal_reader.specs.Reading.{declared_rack_of, cause_of, if_mapless, mapless_of, found, found_of, refused_for, refused_of, parsed_reply, scan_refusal_of}
use Rattle.journal_text.specs.Values.{optional_text}
use Rattle.journal_reader.proofs.Readers.{ReadsAll, Back, Only, AreClean, ended_back, field_back, ended_only, field_only}
use Rattle.journal_reader.proofs.KeyFields.{IsVisible, node_field, number_field, rack_field}
use Rattle.journal_reader.proofs.ByteFields.{word_case, word_clean}
use Rattle.journal_reader.proofs.VersionFields.{optional_field}

-- ---- racks

rack_again : (r : Option ℕ) → IsRack r → declared_rack_of (rack_fields r) ≡ Some r
unfolding declared_rack_of
rack_again None g = refl
rack_again (Some n) g = (field_back (λ rack. at_end (Some rack)) rack_field n g (ended_back IsVisible (Some n))).again

rack_only : (field : List ℕ) → Only (with_field rack_of (λ rack. at_end (Some rack))) (λ fields r. (rack_fields r ≡ fields) × IsRack r)
rack_only field = field_only rack_field (λ n g. ended_only (Some n) (refl, g))

rack_written : (fields : List (List ℕ)) (r : Option ℕ) → declared_rack_of fields ≡ Some r → (rack_fields r ≡ fields) × IsRack r
unfolding declared_rack_of
rack_written [] r e = subst (λ (s : Option ℕ). (rack_fields s ≡ []) × IsRack s) (same_Some None r e) (refl, tt)
rack_written (field ∷ fields) r e = (rack_only field).only (field ∷ fields) r e

rack_clean : (r : Option ℕ) → IsRack r → AreClean IsVisible (rack_fields r)
rack_clean None g = tt
rack_clean (Some n) g = (rack_field.clean n g, tt)

pub rack_rest : ReadsAll IsVisible IsRack rack_fields declared_rack_of
rack_rest = record { again = rack_again; written = rack_written; clean = rack_clean }

-- ---- causes of a refusal

node_after : {A : Type 0} (make : ℕ → A) (n : ℕ) → IsId n → Back IsVisible (with_field parsed_node (λ m. at_end (make m))) (node_text n ∷ []) (make n)
node_after make n node = field_back (λ m. at_end (make m)) node_field n node (ended_back IsVisible (make n))

number_after : {A : Type 0} (make : ℕ → A) (n : ℕ) → IsNumber n → Back IsVisible (with_field number_of (λ m. at_end (make m))) (decimal n ∷ []) (make n)
number_after make n number = field_back (λ m. at_end (make m)) number_field n number (ended_back IsVisible (make n))

pub cause_back : (c : Refusal) → IsCause c → (cause_of (cause_fields c) ≡ Some c) × AreClean IsVisible (cause_fields c)
unfolding cause_of at_end
cause_back refusal.Down g = (refl, (word_clean (codes "down") refl, tt))
cause_back refusal.NoView g = (refl, (word_clean (codes "noview") refl, tt))
cause_back (refusal.Exchanging n) g = let b = node_after refusal.Exchanging n g in (b.again, (word_clean (codes "exchanging") refl, b.clean))
cause_back (refusal.NotMaster n) g = let b = node_after refusal.NotMaster n g in (b.again, (word_clean (codes "notmaster") refl, b.clean))
cause_back (refusal.Busy n) g = let b = number_after refusal.Busy n g in (b.again, (word_clean (codes "busy") refl, b.clean))

cause_written : (fields : List (List ℕ)) (c : Refusal) → cause_of fields ≡ Some c → (cause_fields c ≡ fields) × IsCause c
unfolding cause_of
cause_written [] c e = absurd (none-some c e)
cause_written (name ∷ fields) c e =
    let W : List (List ℕ) → Refusal → Type 0 = (λ fs x. (cause_fields x ≡ name ∷ fs) × IsCause x) in
    word_case (W fields c) name (codes "down") (at_end refusal.Down fields) _ c
    (λ s i. (ended_only {W = W} refusal.Down (ap (λ t. t ∷ []) s, tt)).only fields c i)
    (word_case (W fields c) name (codes "noview") (at_end refusal.NoView fields) _ c
    (λ s i. (ended_only {W = W} refusal.NoView (ap (λ t. t ∷ []) s, tt)).only fields c i)
    (word_case (W fields c) name (codes "exchanging") (with_field parsed_node (λ n. at_end (refusal.Exchanging n)) fields) _ c
    (λ s i. (field_only {W = W} node_field (λ n g. ended_only (refusal.Exchanging n) (ap (λ t. t ∷ node_text n ∷ []) s, g))).only fields c i)
    (word_case (W fields c) name (codes "notmaster") (with_field parsed_node (λ n. at_end (refusal.NotMaster n)) fields) _ c
    (λ s i. (field_only {W = W} node_field (λ n g. ended_only (refusal.NotMaster n) (ap (λ t. t ∷ node_text n ∷ []) s, g))).only fields c i)
    (word_case (W fields c) name (codes "busy") (with_field number_of (λ n. at_end (refusal.Busy n)) fields) None c
    (λ s i. (field_only {W = W} number_field (λ n g. ended_only (refusal.Busy n) (ap (λ t. t ∷ decimal n ∷ []) s, g))).only fields c i)
    (λ none. absurd (none-some c none)))))) e

pub cause_rest : ReadsAll IsVisible IsCause cause_fields cause_of
cause_rest = record { again = λ c g. (cause_back c g).0; written = cause_written; clean = λ c g. (cause_back c g).1 }

-- ---- causes for which a node has no map

mapless_is_cause : (c : Refusal) → IsMapless c → IsCause c
mapless_is_cause refusal.Down g = tt
mapless_is_cause refusal.NoView g = tt
mapless_is_cause (refusal.Exchanging n) g = g
mapless_is_cause (refusal.NotMaster n) g = absurd g
mapless_is_cause (refusal.Busy t) g = absurd g

if_mapless_again : (c : Refusal) → IsMapless c → if_mapless c ≡ Some c
if_mapless_again refusal.Down g = refl
if_mapless_again refusal.NoView g = refl
if_mapless_again (refusal.Exchanging n) g = refl
if_mapless_again (refusal.NotMaster n) g = absurd g
if_mapless_again (refusal.Busy t) g = absurd g

if_mapless_only : (c d : Refusal) → IsCause c → if_mapless c ≡ Some d → (c ≡ d) × IsMapless c
if_mapless_only refusal.Down d g e = (same_Some _ d e, tt)
if_mapless_only refusal.NoView d g e = (same_Some _ d e, tt)
if_mapless_only (refusal.Exchanging n) d g e = (same_Some _ d e, g)
if_mapless_only (refusal.NotMaster n) d g e = absurd (none-some d e)
if_mapless_only (refusal.Busy t) d g e = absurd (none-some d e)

mapless_again : (c : Refusal) → IsMapless c → mapless_of (cause_fields c) ≡ Some c
unfolding mapless_of
mapless_again c g = ap (option_and_then if_mapless) (cause_back c (mapless_is_cause c g)).0 ∙ if_mapless_again c g

mapless_written : (fields : List (List ℕ)) (c : Refusal) → mapless_of fields ≡ Some c → (cause_fields c ≡ fields) × IsMapless c
unfolding mapless_of
mapless_written fields c e =
    option_and_then_some if_mapless (cause_of fields) c e (λ d is allowed.
    let w = cause_written fields d is in
    let m = if_mapless_only d c w.1 allowed in
    subst (λ (x : Refusal). (cause_fields x ≡ fields) × IsMapless x) m.0 (w.0, m.1))

pub mapless_rest : ReadsAll IsVisible IsMapless cause_fields mapless_of
mapless_rest = record { again = mapless_again; written = mapless_written; clean = λ c g. (cause_back c (mapless_is_cause c g)).1 }

-- ---- causes of a scan's refusal

pub scan_refusal_back : (c : ScanRefusal) → IsRefusal c → (scan_refusal_of (scan_refusal_fields c) ≡ Some c) × AreClean IsVisible (scan_refusal_fields c)
unfolding scan_refusal_of at_end
scan_refusal_back scan_refusal.NoView g = (refl, (word_clean (codes "noview") refl, tt))
scan_refusal_back (scan_refusal.Exchanging n) g = let b = node_after scan_refusal.Exchanging n g in (b.again, (word_clean (codes "exchanging") refl, b.clean))
scan_refusal_back (scan_refusal.NotMaster n) g = let b = node_after scan_refusal.NotMaster n g in (b.again, (word_clean (codes "notmaster") refl, b.clean))
scan_refusal_back scan_refusal.NotSettled g = (refl, (word_clean (codes "notsettled") refl, tt))
scan_refusal_back (scan_refusal.Open n) g = let b = number_after scan_refusal.Open n g in (b.again, (word_clean (codes "open") refl, b.clean))

scan_refusal_written : (fields : List (List ℕ)) (c : ScanRefusal) → scan_refusal_of fields ≡ Some c → (scan_refusal_fields c ≡ fields) × IsRefusal c
unfolding scan_refusal_of
scan_refusal_written [] c e = absurd (none-some c e)
scan_refusal_written (name ∷ fields) c e =
    let W : List (List ℕ) → ScanRefusal → Type 0 = (λ fs x. (scan_refusal_fields x ≡ name ∷ fs) × IsRefusal x) in
    word_case (W fields c) name (codes "noview") (at_end scan_refusal.NoView fields) _ c
    (λ s i. (ended_only {W = W} scan_refusal.NoView (ap (λ t. t ∷ []) s, tt)).only fields c i)
    (word_case (W fields c) name (codes "exchanging") (with_field parsed_node (λ n. at_end (scan_refusal.Exchanging n)) fields) _ c
    (λ s i. (field_only {W = W} node_field (λ n g. ended_only (scan_refusal.Exchanging n) (ap (λ t. t ∷ node_text n ∷ []) s, g))).only fields c i)
    (word_case (W fields c) name (codes "notmaster") (with_field parsed_node (λ n. at_end (scan_refusal.NotMaster n)) fields) _ c
    (λ s i. (field_only {W = W} node_field (λ n g. ended_only (scan_refusal.NotMaster n) (ap (λ t. t ∷ node_text n ∷ []) s, g))).only fields c i)
    (word_case (W fields c) name (codes "notsettled") (at_end scan_refusal.NotSettled fields) _ c
    (λ s i. (ended_only {W = W} scan_refusal.NotSettled (ap (λ t. t ∷ []) s, tt)).only fields c i)
    (word_case (W fields c) name (codes "open") (with_field number_of (λ n. at_end (scan_refusal.Open n)) fields) None c
    (λ s i. (field_only {W = W} number_field (λ n g. ended_only (scan_refusal.Open n) (ap (λ t. t ∷ decimal n ∷ []) s, g))).only fields c i)
    (λ none. absurd (none-some c none)))))) e

pub scan_refusal_rest : ReadsAll IsVisible IsRefusal scan_refusal_fields scan_refusal_of
scan_refusal_rest = record { again = λ c g. (scan_refusal_back c g).0; written = scan_refusal_written; clean = λ c g. (scan_refusal_back c g).1 }

-- ---- replies

found_back : (v : Option Version) → IsOptionVersion v → Back IsVisible found_of (optional_text v ∷ []) (found v)
found_back v g = field_back (λ w. at_end (found w)) optional_field v g (ended_back IsVisible (found v))

refused_back : (no_view : Bool) (c : Refusal) (r : ReplyBody) → IsCause c → refused_for no_view c ≡ Some r → (refused_of no_view (cause_fields c) ≡ Some r) × AreClean IsVisible (cause_fields c)
refused_back no_view c r g e = let b = cause_back c g in (ap (option_and_then (refused_for no_view)) b.0 ∙ e, b.1)

reply_back : (no_view : Bool) (r : ReplyBody) → IsReplyBody no_view r → (parsed_reply no_view (reply_fields r) ≡ Some r) × AreClean IsVisible (reply_fields r)
unfolding parsed_reply at_end
reply_back no_view reply.Nothing g = let b = found_back None tt in (b.again, (word_clean (codes "value") refl, b.clean))
reply_back no_view (reply.Found v) g = let b = found_back (Some v) g in (b.again, (word_clean (codes "value") refl, b.clean))
reply_back no_view reply.Done g = (refl, (word_clean (codes "done") refl, tt))
reply_back no_view (reply.Exchanging n) g =
    let b = refused_back no_view (refusal.Exchanging n) (reply.Exchanging n) g refl in (b.0, (word_clean (codes "refused") refl, b.1))
reply_back no_view (reply.NotMaster n) g =
    let b = refused_back no_view (refusal.NotMaster n) (reply.NotMaster n) g refl in (b.0, (word_clean (codes "refused") refl, b.1))
reply_back no_view (reply.Busy t) g =
    let b = refused_back no_view (refusal.Busy t) (reply.Busy t) g refl in (b.0, (word_clean (codes "refused") refl, b.1))
reply_back no_view reply.NoView g =
    let b = refused_back no_view refusal.NoView reply.NoView tt (ap (λ t. cond t (Some reply.NoView) None) g) in (b.0, (word_clean (codes "refused") refl, b.1))

found_is : (no_view : Bool) (name : List ℕ) (v : Option Version) → codes "value" ≡ name → IsOptionVersion v → (reply_fields (found v) ≡ name ∷ optional_text v ∷ []) × IsReplyBody no_view (found v)
found_is no_view name None s g = (ap (λ t. t ∷ codes "none" ∷ []) s, tt)
found_is no_view name (Some v) s g = (ap (λ t. t ∷ optional_text (Some v) ∷ []) s, g)

some_no_view : (no_view : Bool) (r : ReplyBody) → cond no_view (Some reply.NoView) None ≡ Some r → (reply.NoView ≡ r) × (no_view ≡ true)
some_no_view true r e = (same_Some _ r e, refl)
some_no_view false r e = absurd (none-some r e)

refused_is : (no_view : Bool) (c : Refusal) (r : ReplyBody) → IsCause c → refused_for no_view c ≡ Some r → (reply_fields r ≡ codes "refused" ∷ cause_fields c) × IsReplyBody no_view r
refused_is no_view refusal.Down r g e = absurd (none-some r e)
refused_is no_view refusal.NoView r g e =
    let s = some_no_view no_view r e in
    subst (λ (x : ReplyBody). (reply_fields x ≡ codes "refused" ∷ codes "noview" ∷ []) × IsReplyBody no_view x) s.0 (refl, s.1)
refused_is no_view (refusal.Exchanging n) r g e =
    subst (λ (x : ReplyBody). (reply_fields x ≡ codes "refused" ∷ codes "exchanging" ∷ node_text n ∷ []) × IsReplyBody no_view x) (same_Some _ r e) (refl, g)
refused_is no_view (refusal.NotMaster n) r g e =
    subst (λ (x : ReplyBody). (reply_fields x ≡ codes "refused" ∷ codes "notmaster" ∷ node_text n ∷ []) × IsReplyBody no_view x) (same_Some _ r e) (refl, g)
refused_is no_view (refusal.Busy t) r g e =
    subst (λ (x : ReplyBody). (reply_fields x ≡ codes "refused" ∷ codes "busy" ∷ decimal t ∷ []) × IsReplyBody no_view x) (same_Some _ r e) (refl, g)

reply_written : (no_view : Bool) (fields : List (List ℕ)) (r : ReplyBody) → parsed_reply no_view fields ≡ Some r → (reply_fields r ≡ fields) × IsReplyBody no_view r
unfolding parsed_reply
reply_written no_view [] r e = absurd (none-some r e)
reply_written no_view (name ∷ fields) r e =
    let W : List (List ℕ) → ReplyBody → Type 0 = (λ fs x. (reply_fields x ≡ name ∷ fs) × IsReplyBody no_view x) in
    word_case (W fields r) name (codes "value") (found_of fields) _ r
    (λ s i. (field_only {W = W} optional_field (λ v g. ended_only (found v) (found_is no_view name v s g))).only fields r i)
    (word_case (W fields r) name (codes "done") (at_end reply.Done fields) _ r
    (λ s i. (ended_only {W = W} reply.Done (ap (λ t. t ∷ []) s, tt)).only fields r i)
    (word_case (W fields r) name (codes "refused") (refused_of no_view fields) None r
    (λ s i. option_and_then_some (refused_for no_view) (cause_of fields) r i (λ c is allowed.
    let w = cause_written fields c is in
    let q = refused_is no_view c r w.1 allowed in
    (q.0 ∙ (λ j. s j ∷ w.0 j), q.1)))
    (λ none. absurd (none-some r none)))) e

pub reply_rest : (no_view : Bool) → ReadsAll IsVisible (IsReplyBody no_view) reply_fields (parsed_reply no_view)
reply_rest no_view = record { again = λ r g. (reply_back no_view r g).0; written = reply_written no_view; clean = λ r g. (reply_back no_view r g).1 }
