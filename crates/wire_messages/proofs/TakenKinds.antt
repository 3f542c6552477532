-- What is read as a kind of message is spelled so.
use Rattle.std.proofs.Common.{◌≡◌, ℕ, zero, suc, ◌+◌, ◌^◌, true, false, not, List, [], ◌∷◌, Some, Result, ◌||◌, refl, subst, arith, lit<}
use Rattle.std.specs.Prelude.{slice_get}
use Rattle.std.specs.Int.{w32}
use Rattle.std.proofs.lemmas.Bool.{not-true}
use Rattle.cluster_types.specs.declared.member.Role.{Role}
use Rattle.cluster_types.specs.Members.{plain_role}
use Rattle.wire_messages.specs.declared.message.Message.{Message}
use Rattle.wire_messages.specs.declared.message.Message.TheVariants as message
use Rattle.wire_messages.specs.declared.fault.FieldFault.{FieldFault}
use Rattle.wire_messages.specs.Numbers.{byte_field}
use Rattle.wire_messages.specs.Keys.{is_none, key_field}
use Rattle.wire_messages.specs.Nodes.{ids_field, role_field, is_plain, plain_members_field, members_field}
use Rattle.wire_messages.specs.Kinds.{heartbeat_at, propose_at, accept_at, refuse_at, commit_at, state_message_at, batch_at, batch_ack_at, progress_at, repl_at, repl_ack_at, ask_at, answer_at, map_ask_at, map_table_at, heartbeat_with_role_at, propose_with_roles_at, commit_with_roles_at, proxy_at, proxy_reply_at, call_at, reply_message_at, scan_ask_at, scan_page_at, scan_no_at, kinds, kind_of}
use Rattle.wire_messages.proofs.NumberForms.{counted_form, every_form, wide32, partition_form, flag_form, key_form, key_or_none_form}
use Rattle.wire_messages.proofs.NodeForms.{heard_form, table_form, role_form}
use Rattle.wire_messages.proofs.MemberForms.{plain_members_form, members_form}
use Rattle.wire_messages.proofs.VersionForms.{digest_form, option_digest_form, version_form, option_version_form, records_form}
use Rattle.wire_messages.proofs.RowForms.{row_form}
use Rattle.wire_messages.proofs.StateForms.{state_row_form}
use Rattle.wire_messages.proofs.RequestForms.{want_form, reply_form, refusal_form}
use Rattle.wire_messages.proofs.KindLaws.{TakesKind, takes_step, last}

pub taken_accept : TakesKind 3 accept_at
unfolding accept_at byte_field
taken_accept bytes m rest fits e =
    takes_step key_form _ bytes fits _ m rest e (λ key b0 p0 f0 e0.
    last (message.Accept key) _ refl b0 p0 m rest e0)

pub taken_refuse : TakesKind 4 refuse_at
unfolding refuse_at byte_field
taken_refuse bytes m rest fits e =
    takes_step key_form _ bytes fits _ m rest e (λ refused b0 p0 f0 e0.
    takes_step key_form _ b0 f0 _ m rest e0 (λ promised b1 p1 f1 e1.
    last (message.Refuse refused promised) _ refl b1 (p0, p1) m rest e1))

pub taken_state : TakesKind 6 state_message_at
unfolding state_message_at byte_field
taken_state bytes m rest fits e =
    takes_step key_form _ bytes fits _ m rest e (λ key b0 p0 f0 e0.
    takes_step flag_form _ b0 f0 _ m rest e0 (λ wants b1 p1 f1 e1.
    takes_step state_row_form _ b1 f1 _ m rest e1 (λ row b2 p2 f2 e2.
    last (message.State key wants row) _ refl b2 (p0, p2) m rest e2)))

pub taken_batch : TakesKind 7 batch_at
unfolding batch_at byte_field
taken_batch bytes m rest fits e =
    takes_step key_form _ bytes fits _ m rest e (λ key b0 p0 f0 e0.
    takes_step counted_form _ b0 f0 _ m rest e0 (λ number b1 p1 f1 e1.
    takes_step (records_form 1) _ b1 f1 _ m rest e1 (λ records b2 p2 f2 e2.
    last (message.Batch (record { key = key; number = number; records = records })) _ refl b2 (record { key = p0; number = p1; records = p2 }) m rest e2)))

pub taken_batch_ack : TakesKind 8 batch_ack_at
unfolding batch_ack_at byte_field
taken_batch_ack bytes m rest fits e =
    takes_step key_form _ bytes fits _ m rest e (λ key b0 p0 f0 e0.
    takes_step counted_form _ b0 f0 _ m rest e0 (λ number b1 p1 f1 e1.
    last (message.BatchAck key number) _ refl b1 (p0, p1) m rest e1))

pub taken_progress : TakesKind 9 progress_at
unfolding progress_at byte_field
taken_progress bytes m rest fits e =
    takes_step key_form _ bytes fits _ m rest e (λ key b0 p0 f0 e0.
    takes_step flag_form _ b0 f0 _ m rest e0 (λ wants b1 p1 f1 e1.
    takes_step row_form _ b1 f1 _ m rest e1 (λ done b2 p2 f2 e2.
    takes_step row_form _ b2 f2 _ m rest e2 (λ handed b3 p3 f3 e3.
    takes_step row_form _ b3 f3 _ m rest e3 (λ settled b4 p4 f4 e4.
    last (message.Progress key wants done handed settled) _ refl b4 (p0, p2, p3, p4) m rest e4)))))

pub taken_repl : TakesKind 10 repl_at
unfolding repl_at byte_field
taken_repl bytes m rest fits e =
    takes_step key_form _ bytes fits _ m rest e (λ key b0 p0 f0 e0.
    takes_step counted_form _ b0 f0 _ m rest e0 (λ transaction b1 p1 f1 e1.
    takes_step counted_form _ b1 f1 _ m rest e1 (λ nth b2 p2 f2 e2.
    takes_step digest_form _ b2 f2 _ m rest e2 (λ digest b3 p3 f3 e3.
    takes_step version_form _ b3 f3 _ m rest e3 (λ version b4 p4 f4 e4.
    last (message.Repl key transaction nth digest version) _ refl b4 (p0, p1, p2, p3, p4) m rest e4)))))

pub taken_repl_ack : TakesKind 11 repl_ack_at
unfolding repl_ack_at byte_field
taken_repl_ack bytes m rest fits e =
    takes_step key_form _ bytes fits _ m rest e (λ key b0 p0 f0 e0.
    takes_step counted_form _ b0 f0 _ m rest e0 (λ transaction b1 p1 f1 e1.
    last (message.ReplAck key transaction) _ refl b1 (p0, p1) m rest e1))

pub taken_ask : TakesKind 12 ask_at
unfolding ask_at byte_field
taken_ask bytes m rest fits e =
    takes_step key_form _ bytes fits _ m rest e (λ key b0 p0 f0 e0.
    takes_step counted_form _ b0 f0 _ m rest e0 (λ transaction b1 p1 f1 e1.
    takes_step digest_form _ b1 f1 _ m rest e1 (λ digest b2 p2 f2 e2.
    last (message.Ask key transaction digest) _ refl b2 (p0, p1, p2) m rest e2)))

pub taken_answer : TakesKind 13 answer_at
unfolding answer_at byte_field
taken_answer bytes m rest fits e =
    takes_step key_form _ bytes fits _ m rest e (λ key b0 p0 f0 e0.
    takes_step counted_form _ b0 f0 _ m rest e0 (λ transaction b1 p1 f1 e1.
    takes_step option_version_form _ b1 f1 _ m rest e1 (λ version b2 p2 f2 e2.
    last (message.Answer key transaction version) _ refl b2 (p0, p1, p2) m rest e2)))

pub taken_map_ask : TakesKind 14 map_ask_at
unfolding map_ask_at byte_field
taken_map_ask bytes m rest fits e =
    last message.MapAsk _ refl bytes tt m rest e

pub taken_map_table : TakesKind 15 map_table_at
unfolding map_table_at byte_field
taken_map_table bytes m rest fits e =
    takes_step key_form _ bytes fits _ m rest e (λ key b0 p0 f0 e0.
    takes_step table_form _ b0 f0 _ m rest e0 (λ ids b1 p1 f1 e1.
    takes_step row_form _ b1 f1 _ m rest e1 (λ moved b2 p2 f2 e2.
    last (message.MapTable (record { key = key; ids = ids; moved = moved })) _ refl b2 (record { key = p0; size = p1.size; ids = p1.each; moved = p2 }) m rest e2)))

pub taken_proxy : TakesKind 19 proxy_at
unfolding proxy_at byte_field
taken_proxy bytes m rest fits e =
    takes_step key_form _ bytes fits _ m rest e (λ key b0 p0 f0 e0.
    takes_step counted_form _ b0 f0 _ m rest e0 (λ number b1 p1 f1 e1.
    takes_step digest_form _ b1 f1 _ m rest e1 (λ digest b2 p2 f2 e2.
    takes_step want_form _ b2 f2 _ m rest e2 (λ want b3 p3 f3 e3.
    last (message.Proxy key number digest want) _ refl b3 (p0, p1, p2, p3) m rest e3))))

pub taken_proxy_reply : TakesKind 20 proxy_reply_at
unfolding proxy_reply_at byte_field
taken_proxy_reply bytes m rest fits e =
    takes_step key_form _ bytes fits _ m rest e (λ key b0 p0 f0 e0.
    takes_step counted_form _ b0 f0 _ m rest e0 (λ number b1 p1 f1 e1.
    takes_step (reply_form false) _ b1 f1 _ m rest e1 (λ reply b2 p2 f2 e2.
    last (message.ProxyReply key number reply) _ refl b2 (p0, p1, p2) m rest e2)))

pub taken_call : TakesKind 21 call_at
unfolding call_at byte_field
taken_call bytes m rest fits e =
    takes_step counted_form _ bytes fits _ m rest e (λ number b0 p0 f0 e0.
    takes_step digest_form _ b0 f0 _ m rest e0 (λ digest b1 p1 f1 e1.
    takes_step want_form _ b1 f1 _ m rest e1 (λ want b2 p2 f2 e2.
    last (message.Call number digest want) _ refl b2 (p0, p1, p2) m rest e2)))

pub taken_reply : TakesKind 22 reply_message_at
unfolding reply_message_at byte_field
taken_reply bytes m rest fits e =
    takes_step key_or_none_form _ bytes fits _ m rest e (λ key b0 p0 f0 e0.
    takes_step counted_form _ b0 f0 _ m rest e0 (λ number b1 p1 f1 e1.
    takes_step (reply_form (is_none key)) _ b1 f1 _ m rest e1 (λ reply b2 p2 f2 e2.
    last (message.Reply key number reply) _ refl b2 (p0, p1, p2) m rest e2)))

pub taken_scan_ask : TakesKind 23 scan_ask_at
unfolding scan_ask_at byte_field
taken_scan_ask bytes m rest fits e =
    takes_step counted_form _ bytes fits _ m rest e (λ scan b0 p0 f0 e0.
    takes_step partition_form _ b0 f0 _ m rest e0 (λ partition b1 p1 f1 e1.
    takes_step option_digest_form _ b1 f1 _ m rest e1 (λ after b2 p2 f2 e2.
    last (message.ScanAsk scan partition after) _ refl b2 (p0, p1, p2) m rest e2)))

pub taken_scan_page : TakesKind 24 scan_page_at
unfolding scan_page_at byte_field
taken_scan_page bytes m rest fits e =
    takes_step key_form _ bytes fits _ m rest e (λ key b0 p0 f0 e0.
    takes_step counted_form _ b0 f0 _ m rest e0 (λ scan b1 p1 f1 e1.
    takes_step option_digest_form _ b1 f1 _ m rest e1 (λ after b2 p2 f2 e2.
    takes_step (every_form w32 (2 ^ 32) wide32) _ b2 f2 _ m rest e2 (λ writes b3 p3 f3 e3.
    takes_step (records_form 0) _ b3 f3 _ m rest e3 (λ records b4 p4 f4 e4.
    takes_step flag_form _ b4 f4 _ m rest e4 (λ more b5 p5 f5 e5.
    last (message.ScanPage (record { key = key; scan = scan; after = after; writes = writes; records = records; more = more })) _ refl b5 (record { key = p0; scan = p1; after = p2; writes = p3; records = p4 }) m rest e5))))))

pub taken_scan_no : TakesKind 25 scan_no_at
unfolding scan_no_at byte_field
taken_scan_no bytes m rest fits e =
    takes_step counted_form _ bytes fits _ m rest e (λ scan b0 p0 f0 e0.
    takes_step refusal_form _ b0 f0 _ m rest e0 (λ refusal b1 p1 f1 e1.
    last (message.ScanNo scan refusal) _ refl b1 (p0, p1) m rest e1))

pub taken_heartbeat : TakesKind 1 heartbeat_at
unfolding heartbeat_at byte_field
taken_heartbeat bytes m rest fits e =
    takes_step key_or_none_form _ bytes fits _ m rest e (λ view b0 p0 f0 e0.
    takes_step key_or_none_form _ b0 f0 _ m rest e0 (λ promised b1 p1 f1 e1.
    takes_step heard_form _ b1 f1 _ m rest e1 (λ hears b2 p2 f2 e2.
    last (message.Heartbeat view promised hears plain_role) _ refl b2 (p0, p1, p2, lit< tt) m rest e2)))

named_role : (role : Role) → (false || not (is_plain role)) ≡ true → is_plain role ≡ false
named_role role h = not-true (is_plain role) h

pub taken_heartbeat_with_role : TakesKind 16 heartbeat_with_role_at
unfolding heartbeat_with_role_at byte_field
taken_heartbeat_with_role bytes m rest fits e =
    takes_step key_or_none_form _ bytes fits _ m rest e (λ view b0 p0 f0 e0.
    takes_step key_or_none_form _ b0 f0 _ m rest e0 (λ promised b1 p1 f1 e1.
    takes_step heard_form _ b1 f1 _ m rest e1 (λ hears b2 p2 f2 e2.
    takes_step (role_form false) _ b2 f2 _ m rest e2 (λ role b3 p3 f3 e3.
    last (message.Heartbeat view promised hears role) (byte_field 16 ∷ key_field view ∷ key_field promised ∷ ids_field hears ∷ role_field role ∷ []) (rw (named_role role p3.test) refl) b3 (p0, p1, p2, p3.rack) m rest e3))))

pub taken_propose : TakesKind 2 propose_at
unfolding propose_at byte_field
taken_propose bytes m rest fits e =
    takes_step key_form _ bytes fits _ m rest e (λ key b0 p0 f0 e0.
    takes_step plain_members_form _ b0 f0 _ m rest e0 (λ members b1 p1 f1 e1.
    last (message.Propose key members) (byte_field 2 ∷ key_field key ∷ plain_members_field members ∷ []) (rw p1.plain refl) b1 (p0, p1.field) m rest e1))

pub taken_propose_with_roles : TakesKind 17 propose_with_roles_at
unfolding propose_with_roles_at byte_field
taken_propose_with_roles bytes m rest fits e =
    takes_step key_form _ bytes fits _ m rest e (λ key b0 p0 f0 e0.
    takes_step members_form _ b0 f0 _ m rest e0 (λ members b1 p1 f1 e1.
    last (message.Propose key members) (byte_field 17 ∷ key_field key ∷ members_field members ∷ []) (rw p1.roles refl) b1 (p0, p1.field) m rest e1))

pub taken_commit : TakesKind 5 commit_at
unfolding commit_at byte_field
taken_commit bytes m rest fits e =
    takes_step key_form _ bytes fits _ m rest e (λ key b0 p0 f0 e0.
    takes_step plain_members_form _ b0 f0 _ m rest e0 (λ members b1 p1 f1 e1.
    last (message.Commit key members) (byte_field 5 ∷ key_field key ∷ plain_members_field members ∷ []) (rw p1.plain refl) b1 (p0, p1.field) m rest e1))

pub taken_commit_with_roles : TakesKind 18 commit_with_roles_at
unfolding commit_with_roles_at byte_field
taken_commit_with_roles bytes m rest fits e =
    takes_step key_form _ bytes fits _ m rest e (λ key b0 p0 f0 e0.
    takes_step members_form _ b0 f0 _ m rest e0 (λ members b1 p1 f1 e1.
    last (message.Commit key members) (byte_field 18 ∷ key_field key ∷ members_field members ∷ []) (rw p1.roles refl) b1 (p0, p1.field) m rest e1))

-- ---- all kinds

abbrev TakesFrom : ℕ → List (List ℕ → Result (Message × List ℕ) FieldFault) → Type 0
TakesFrom kind [] = Unit {0}
TakesFrom kind (read ∷ reads) = TakesKind kind read × TakesFrom (suc kind) reads

taken_kinds : TakesFrom 1 kinds
taken_kinds = (
  taken_heartbeat,
  (
    taken_propose,
    (
      taken_accept,
      (
        taken_refuse,
        (
          taken_commit,
          (
            taken_state,
            (
              taken_batch,
              (
                taken_batch_ack,
                (
                  taken_progress,
                  (
                    taken_repl,
                    (
                      taken_repl_ack,
                      (
                        taken_ask,
                        (
                          taken_answer,
                          (
                            taken_map_ask,
                            (
                              taken_map_table,
                              (
                                taken_heartbeat_with_role,
                                (
                                  taken_propose_with_roles,
                                  (
                                    taken_commit_with_roles,
                                    (
                                      taken_proxy,
                                      (
                                        taken_proxy_reply,
                                        (taken_call, (taken_reply, (taken_scan_ask, (taken_scan_page, (taken_scan_no, tt))))),
                                      ),
                                    ),
                                  ),
                                ),
                              ),
                            ),
                          ),
                        ),
                      ),
                    ),
                  ),
                ),
              ),
            ),
          ),
        ),
      ),
    ),
  ),
)

takes_at : (kind : ℕ) (reads : List (List ℕ → Result (Message × List ℕ) FieldFault)) → TakesFrom kind reads → (n : ℕ) (read : List ℕ → Result (Message × List ℕ) FieldFault)
    → slice_get reads n ≡ Some read → TakesKind (kind + n) read
takes_at kind [] h n read e = absurd cc
takes_at kind (r ∷ reads) h zero read e =
    let is : r ≡ read = cc in
    let same : kind ≡ kind + 0 = omega arith in
    subst (λ k. TakesKind k read) same (subst (TakesKind kind) is h.0)
takes_at kind (r ∷ reads) h (suc n) read e =
    let same : suc kind + n ≡ kind + suc n = omega arith in
    subst (λ k. TakesKind k read) same (takes_at (suc kind) reads h.1 n read e)

pub kind_takes : (kind : ℕ) (read : List ℕ → Result (Message × List ℕ) FieldFault) → kind_of kind ≡ Some read → TakesKind kind read
kind_takes zero read e = absurd cc
kind_takes (suc n) read e =
    let same : 1 + n ≡ suc n = omega arith in
    subst (λ k. TakesKind k read) same (takes_at 1 kinds taken_kinds n read e)
