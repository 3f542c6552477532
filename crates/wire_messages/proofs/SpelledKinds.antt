-- Each proper message is read from its spelling.
use Rattle.std.proofs.Common.{◌≡◌, ℕ, ◌^◌, Bool, true, false, not, List, [], ◌++◌, Option, ◌||◌, inl, inr, refl, sym, ap, lit<}
use Rattle.std.specs.List.{flat_map}
use Rattle.std.specs.Int.{w16, w32}
use Rattle.std.proofs.lemmas.Bool.{cases_Bool}
use Rattle.conflict_order.specs.declared.version.Version.{Version}
use Rattle.conflict_order.specs.declared.want.Want.{Want}
use Rattle.cluster_types.specs.declared.cluster_key.ClusterKey.{ClusterKey}
use Rattle.cluster_types.specs.declared.copy_state.CopyState.{CopyState}
use Rattle.cluster_types.specs.declared.member.Member.{Member}
use Rattle.cluster_types.specs.declared.member.Role.{Role}
use Rattle.cluster_types.specs.RowBytes.{bytes_of}
use Rattle.wire_messages.specs.declared.message.Message.{Message}
use Rattle.wire_messages.specs.declared.message.Message.TheVariants as message
use Rattle.wire_messages.specs.declared.message.Batch.{Batch}
use Rattle.wire_messages.specs.declared.message.MapTable.{MapTable}
use Rattle.wire_messages.specs.declared.reply.ReplyBody.{ReplyBody}
use Rattle.wire_messages.specs.declared.scan.ScanPage.{ScanPage}
use Rattle.wire_messages.specs.declared.scan.ScanRefusal.{ScanRefusal}
use Rattle.wire_messages.specs.Numbers.{number_field, byte_field, flag_field}
use Rattle.wire_messages.specs.Keys.{is_none, key_field}
use Rattle.wire_messages.specs.Nodes.{id_field, ids_field, role_field, is_plain, all_plain, plain_members_field, members_field}
use Rattle.wire_messages.specs.Versions.{option_digest_field, version_field, option_version_field, records_field}
use Rattle.wire_messages.specs.Rows.{state_row_field}
use Rattle.wire_messages.specs.Requests.{want_field, reply_field, refusal_field}
use Rattle.wire_messages.specs.Kinds.{heartbeat_at, propose_at, accept_at, refuse_at, commit_at, state_message_at, batch_at, batch_ack_at, progress_at, repl_at, repl_ack_at, ask_at, answer_at, map_ask_at, map_table_at, heartbeat_with_role_at, propose_with_roles_at, commit_with_roles_at, proxy_at, proxy_reply_at, call_at, reply_message_at, scan_ask_at, scan_page_at, scan_no_at}
use Rattle.wire_messages.specs.Proper.{IsProper, IsBatch, IsMapTable, IsScanPage}
use Rattle.wire_messages.specs.Spelling.{spelling}
use Rattle.wire_messages.proofs.Forms.{again_step, cut_step, small_step, done}
use Rattle.wire_messages.proofs.NumberForms.{counted_form, every_form, wide32, partition_form, flag_form, key_form, key_or_none_form, no_less}
use Rattle.wire_messages.proofs.NodeForms.{heard_form, table_form, role_form}
use Rattle.wire_messages.proofs.MemberForms.{plain_is, plain_members_form, members_form}
use Rattle.wire_messages.proofs.VersionForms.{digest_form, option_digest_form, version_form, option_version_form, records_form}
use Rattle.wire_messages.proofs.RowForms.{row_form}
use Rattle.wire_messages.proofs.StateForms.{state_row_form}
use Rattle.wire_messages.proofs.RequestForms.{want_form, reply_form, refusal_form}
use Rattle.wire_messages.proofs.KindLaws.{Spelled}

pub spelled_accept : (key : ClusterKey) → IsProper (message.Accept key) → Spelled (message.Accept key)
unfolding accept_at spelling byte_field
spelled_accept key p = record {
  kind = 3;
  read = accept_at;
  text = key_field key ++ [];
  spelled = refl;
  known = refl;
  again = λ rest. again_step key_form key p _ _ _ _ refl;
  cut = λ k less. cut_step key_form key p _ _ (λ z less. no_less z less) k less;
  small = (lit< tt, small_step key_form key p _ tt);
}

pub spelled_refuse : (refused : ClusterKey) (promised : ClusterKey) → IsProper (message.Refuse refused promised) → Spelled (message.Refuse refused promised)
unfolding refuse_at spelling byte_field
spelled_refuse refused promised p = record {
  kind = 4;
  read = refuse_at;
  text = key_field refused ++ (key_field promised ++ []);
  spelled = refl;
  known = refl;
  again = λ rest. again_step key_form refused p.0 _ _ _ _ (again_step key_form promised p.1 _ _ _ _ refl);
  cut = λ k less. cut_step key_form refused p.0 _ _ (λ i less. cut_step key_form promised p.1 _ _ (λ z less. no_less z less) i less) k less;
  small = (lit< tt, small_step key_form refused p.0 _ (small_step key_form promised p.1 _ tt));
}

pub spelled_state : (key : ClusterKey) (wants : Bool) (row : List (ℕ × CopyState)) → IsProper (message.State key wants row) → Spelled (message.State key wants row)
unfolding state_message_at spelling byte_field
spelled_state key wants row p = record {
  kind = 6;
  read = state_message_at;
  text = key_field key ++ (flag_field wants ++ (state_row_field row ++ []));
  spelled = refl;
  known = refl;
  again = λ rest. again_step key_form key p.0 _ _ _ _ (again_step flag_form wants tt _ _ _ _ (again_step state_row_form row p.1 _ _ _ _ refl));
  cut = λ k less. cut_step key_form key p.0 _ _ (λ i less. cut_step flag_form wants tt _ _ (λ j less. cut_step state_row_form row p.1 _ _ (λ z less. no_less z less) j less) i less) k less;
  small = (lit< tt, small_step key_form key p.0 _ (small_step flag_form wants tt _ (small_step state_row_form row p.1 _ tt)));
}

pub spelled_batch : (b : Batch) → IsBatch b → Spelled (message.Batch b)
unfolding batch_at spelling byte_field
spelled_batch b p = record {
  kind = 7;
  read = batch_at;
  text = key_field b.key ++ (number_field w32 b.number ++ (records_field b.records ++ []));
  spelled = refl;
  known = refl;
  again = λ rest. again_step key_form b.key p.key _ _ _ _ (again_step counted_form b.number p.number _ _ _ _ (again_step (records_form 1) b.records p.records _ _ _ _ refl));
  cut = λ k less. cut_step key_form b.key p.key _ _ (λ i less. cut_step counted_form b.number p.number _ _ (λ j less. cut_step (records_form 1) b.records p.records _ _ (λ z less. no_less z less) j less) i less) k less;
  small = (lit< tt, small_step key_form b.key p.key _ (small_step counted_form b.number p.number _ (small_step (records_form 1) b.records p.records _ tt)));
}

pub spelled_batch_ack : (key : ClusterKey) (number : ℕ) → IsProper (message.BatchAck key number) → Spelled (message.BatchAck key number)
unfolding batch_ack_at spelling byte_field
spelled_batch_ack key number p = record {
  kind = 8;
  read = batch_ack_at;
  text = key_field key ++ (number_field w32 number ++ []);
  spelled = refl;
  known = refl;
  again = λ rest. again_step key_form key p.0 _ _ _ _ (again_step counted_form number p.1 _ _ _ _ refl);
  cut = λ k less. cut_step key_form key p.0 _ _ (λ i less. cut_step counted_form number p.1 _ _ (λ z less. no_less z less) i less) k less;
  small = (lit< tt, small_step key_form key p.0 _ (small_step counted_form number p.1 _ tt));
}

pub spelled_progress : (key : ClusterKey) (wants : Bool) (done : List Bool) (handed : List Bool) (settled : List Bool) → IsProper (message.Progress key wants done handed settled) → Spelled (message.Progress key wants done handed settled)
unfolding progress_at spelling byte_field
spelled_progress key wants done handed settled p = record {
  kind = 9;
  read = progress_at;
  text = key_field key ++ (flag_field wants ++ (bytes_of done ++ (bytes_of handed ++ (bytes_of settled ++ []))));
  spelled = refl;
  known = refl;
  again = λ rest. again_step key_form key p.0 _ _ _ _ (again_step flag_form wants tt _ _ _ _ (again_step row_form done p.1 _ _ _ _ (again_step row_form handed p.2 _ _ _ _ (again_step row_form settled p.3 _ _ _ _ refl))));
  cut = λ k less. cut_step key_form key p.0 _ _ (λ i less. cut_step flag_form wants tt _ _ (λ j less. cut_step row_form done p.1 _ _ (λ k less. cut_step row_form handed p.2 _ _ (λ l less. cut_step row_form settled p.3 _ _ (λ z less. no_less z less) l less) k less) j less) i less) k less;
  small = (lit< tt, small_step key_form key p.0 _ (small_step flag_form wants tt _ (small_step row_form done p.1 _ (small_step row_form handed p.2 _ (small_step row_form settled p.3 _ tt)))));
}

pub spelled_repl : (key : ClusterKey) (transaction : ℕ) (nth : ℕ) (digest : List ℕ) (version : Version) → IsProper (message.Repl key transaction nth digest version) → Spelled (message.Repl key transaction nth digest version)
unfolding repl_at spelling byte_field
spelled_repl key transaction nth digest version p = record {
  kind = 10;
  read = repl_at;
  text = key_field key ++ (number_field w32 transaction ++ (number_field w32 nth ++ (digest ++ (version_field version ++ []))));
  spelled = refl;
  known = refl;
  again = λ rest. again_step key_form key p.0 _ _ _ _ (again_step counted_form transaction p.1 _ _ _ _ (again_step counted_form nth p.2 _ _ _ _ (again_step digest_form digest p.3 _ _ _ _ (again_step version_form version p.4 _ _ _ _ refl))));
  cut = λ k less. cut_step key_form key p.0 _ _ (λ i less. cut_step counted_form transaction p.1 _ _ (λ j less. cut_step counted_form nth p.2 _ _ (λ k less. cut_step digest_form digest p.3 _ _ (λ l less. cut_step version_form version p.4 _ _ (λ z less. no_less z less) l less) k less) j less) i less) k less;
  small = (lit< tt, small_step key_form key p.0 _ (small_step counted_form transaction p.1 _ (small_step counted_form nth p.2 _ (small_step digest_form digest p.3 _ (small_step version_form version p.4 _ tt)))));
}

pub spelled_repl_ack : (key : ClusterKey) (transaction : ℕ) → IsProper (message.ReplAck key transaction) → Spelled (message.ReplAck key transaction)
unfolding repl_ack_at spelling byte_field
spelled_repl_ack key transaction p = record {
  kind = 11;
  read = repl_ack_at;
  text = key_field key ++ (number_field w32 transaction ++ []);
  spelled = refl;
  known = refl;
  again = λ rest. again_step key_form key p.0 _ _ _ _ (again_step counted_form transaction p.1 _ _ _ _ refl);
  cut = λ k less. cut_step key_form key p.0 _ _ (λ i less. cut_step counted_form transaction p.1 _ _ (λ z less. no_less z less) i less) k less;
  small = (lit< tt, small_step key_form key p.0 _ (small_step counted_form transaction p.1 _ tt));
}

pub spelled_ask : (key : ClusterKey) (transaction : ℕ) (digest : List ℕ) → IsProper (message.Ask key transaction digest) → Spelled (message.Ask key transaction digest)
unfolding ask_at spelling byte_field
spelled_ask key transaction digest p = record {
  kind = 12;
  read = ask_at;
  text = key_field key ++ (number_field w32 transaction ++ (digest ++ []));
  spelled = refl;
  known = refl;
  again = λ rest. again_step key_form key p.0 _ _ _ _ (again_step counted_form transaction p.1 _ _ _ _ (again_step digest_form digest p.2 _ _ _ _ refl));
  cut = λ k less. cut_step key_form key p.0 _ _ (λ i less. cut_step counted_form transaction p.1 _ _ (λ j less. cut_step digest_form digest p.2 _ _ (λ z less. no_less z less) j less) i less) k less;
  small = (lit< tt, small_step key_form key p.0 _ (small_step counted_form transaction p.1 _ (small_step digest_form digest p.2 _ tt)));
}

pub spelled_answer : (key : ClusterKey) (transaction : ℕ) (version : Option Version) → IsProper (message.Answer key transaction version) → Spelled (message.Answer key transaction version)
unfolding answer_at spelling byte_field
spelled_answer key transaction version p = record {
  kind = 13;
  read = answer_at;
  text = key_field key ++ (number_field w32 transaction ++ (option_version_field version ++ []));
  spelled = refl;
  known = refl;
  again = λ rest. again_step key_form key p.0 _ _ _ _ (again_step counted_form transaction p.1 _ _ _ _ (again_step option_version_form version p.2 _ _ _ _ refl));
  cut = λ k less. cut_step key_form key p.0 _ _ (λ i less. cut_step counted_form transaction p.1 _ _ (λ j less. cut_step option_version_form version p.2 _ _ (λ z less. no_less z less) j less) i less) k less;
  small = (lit< tt, small_step key_form key p.0 _ (small_step counted_form transaction p.1 _ (small_step option_version_form version p.2 _ tt)));
}

pub spelled_map_ask : Spelled message.MapAsk
unfolding map_ask_at spelling byte_field
spelled_map_ask = record {
  kind = 14;
  read = map_ask_at;
  text = [];
  spelled = refl;
  known = refl;
  again = λ rest. refl;
  cut = λ k less. no_less k less;
  small = (lit< tt, tt);
}

pub spelled_map_table : (t : MapTable) → IsMapTable t → Spelled (message.MapTable t)
unfolding map_table_at spelling byte_field
spelled_map_table t p = record {
  kind = 15;
  read = map_table_at;
  text = key_field t.key ++ (flat_map id_field t.ids ++ (bytes_of t.moved ++ []));
  spelled = refl;
  known = refl;
  again = λ rest. again_step key_form t.key p.key _ _ _ _ (again_step table_form t.ids (record { size = p.size; each = p.ids }) _ _ _ _ (again_step row_form t.moved p.moved _ _ _ _ refl));
  cut = λ k less. cut_step key_form t.key p.key _ _ (λ i less. cut_step table_form t.ids (record { size = p.size; each = p.ids }) _ _ (λ j less. cut_step row_form t.moved p.moved _ _ (λ z less. no_less z less) j less) i less) k less;
  small = (lit< tt, small_step key_form t.key p.key _ (small_step table_form t.ids (record { size = p.size; each = p.ids }) _ (small_step row_form t.moved p.moved _ tt)));
}

pub spelled_proxy : (key : ClusterKey) (number : ℕ) (digest : List ℕ) (want : Want) → IsProper (message.Proxy key number digest want) → Spelled (message.Proxy key number digest want)
unfolding proxy_at spelling byte_field
spelled_proxy key number digest want p = record {
  kind = 19;
  read = proxy_at;
  text = key_field key ++ (number_field w32 number ++ (digest ++ (want_field want ++ [])));
  spelled = refl;
  known = refl;
  again = λ rest. again_step key_form key p.0 _ _ _ _ (again_step counted_form number p.1 _ _ _ _ (again_step digest_form digest p.2 _ _ _ _ (again_step want_form want p.3 _ _ _ _ refl)));
  cut = λ k less. cut_step key_form key p.0 _ _ (λ i less. cut_step counted_form number p.1 _ _ (λ j less. cut_step digest_form digest p.2 _ _ (λ k less. cut_step want_form want p.3 _ _ (λ z less. no_less z less) k less) j less) i less) k less;
  small = (lit< tt, small_step key_form key p.0 _ (small_step counted_form number p.1 _ (small_step digest_form digest p.2 _ (small_step want_form want p.3 _ tt))));
}

pub spelled_proxy_reply : (key : ClusterKey) (number : ℕ) (reply : ReplyBody) → IsProper (message.ProxyReply key number reply) → Spelled (message.ProxyReply key number reply)
unfolding proxy_reply_at spelling byte_field
spelled_proxy_reply key number reply p = record {
  kind = 20;
  read = proxy_reply_at;
  text = key_field key ++ (number_field w32 number ++ (reply_field reply ++ []));
  spelled = refl;
  known = refl;
  again = λ rest. again_step key_form key p.0 _ _ _ _ (again_step counted_form number p.1 _ _ _ _ (again_step (reply_form false) reply p.2 _ _ _ _ refl));
  cut = λ k less. cut_step key_form key p.0 _ _ (λ i less. cut_step counted_form number p.1 _ _ (λ j less. cut_step (reply_form false) reply p.2 _ _ (λ z less. no_less z less) j less) i less) k less;
  small = (lit< tt, small_step key_form key p.0 _ (small_step counted_form number p.1 _ (small_step (reply_form false) reply p.2 _ tt)));
}

pub spelled_call : (number : ℕ) (digest : List ℕ) (want : Want) → IsProper (message.Call number digest want) → Spelled (message.Call number digest want)
unfolding call_at spelling byte_field
spelled_call number digest want p = record {
  kind = 21;
  read = call_at;
  text = number_field w32 number ++ (digest ++ (want_field want ++ []));
  spelled = refl;
  known = refl;
  again = λ rest. again_step counted_form number p.0 _ _ _ _ (again_step digest_form digest p.1 _ _ _ _ (again_step want_form want p.2 _ _ _ _ refl));
  cut = λ k less. cut_step counted_form number p.0 _ _ (λ i less. cut_step digest_form digest p.1 _ _ (λ j less. cut_step want_form want p.2 _ _ (λ z less. no_less z less) j less) i less) k less;
  small = (lit< tt, small_step counted_form number p.0 _ (small_step digest_form digest p.1 _ (small_step want_form want p.2 _ tt)));
}

pub spelled_reply : (key : ClusterKey) (number : ℕ) (reply : ReplyBody) → IsProper (message.Reply key number reply) → Spelled (message.Reply key number reply)
unfolding reply_message_at spelling byte_field
spelled_reply key number reply p = record {
  kind = 22;
  read = reply_message_at;
  text = key_field key ++ (number_field w32 number ++ (reply_field reply ++ []));
  spelled = refl;
  known = refl;
  again = λ rest. again_step key_or_none_form key p.0 _ _ _ _ (again_step counted_form number p.1 _ _ _ _ (again_step (reply_form (is_none key)) reply p.2 _ _ _ _ refl));
  cut = λ k less. cut_step key_or_none_form key p.0 _ _ (λ i less. cut_step counted_form number p.1 _ _ (λ j less. cut_step (reply_form (is_none key)) reply p.2 _ _ (λ z less. no_less z less) j less) i less) k less;
  small = (lit< tt, small_step key_or_none_form key p.0 _ (small_step counted_form number p.1 _ (small_step (reply_form (is_none key)) reply p.2 _ tt)));
}

pub spelled_scan_ask : (scan : ℕ) (partition : ℕ) (after : Option (List ℕ)) → IsProper (message.ScanAsk scan partition after) → Spelled (message.ScanAsk scan partition after)
unfolding scan_ask_at spelling byte_field
spelled_scan_ask scan partition after p = record {
  kind = 23;
  read = scan_ask_at;
  text = number_field w32 scan ++ (number_field w16 partition ++ (option_digest_field after ++ []));
  spelled = refl;
  known = refl;
  again = λ rest. again_step counted_form scan p.0 _ _ _ _ (again_step partition_form partition p.1 _ _ _ _ (again_step option_digest_form after p.2 _ _ _ _ refl));
  cut = λ k less. cut_step counted_form scan p.0 _ _ (λ i less. cut_step partition_form partition p.1 _ _ (λ j less. cut_step option_digest_form after p.2 _ _ (λ z less. no_less z less) j less) i less) k less;
  small = (lit< tt, small_step counted_form scan p.0 _ (small_step partition_form partition p.1 _ (small_step option_digest_form after p.2 _ tt)));
}

pub spelled_scan_page : (page : ScanPage) → IsScanPage page → Spelled (message.ScanPage page)
unfolding scan_page_at spelling byte_field
spelled_scan_page page p = record {
  kind = 24;
  read = scan_page_at;
  text = key_field page.key ++ (number_field w32 page.scan ++ (option_digest_field page.after ++ (number_field w32 page.writes ++ (records_field page.records ++ (flag_field page.more ++ [])))));
  spelled = refl;
  known = refl;
  again = λ rest. again_step key_form page.key p.key _ _ _ _ (again_step counted_form page.scan p.scan _ _ _ _ (again_step option_digest_form page.after p.after _ _ _ _ (again_step (every_form w32 (2 ^ 32) wide32) page.writes p.writes _ _ _ _ (again_step (records_form 0) page.records p.records _ _ _ _ (again_step flag_form page.more tt _ _ _ _ refl)))));
  cut = λ k less. cut_step key_form page.key p.key _ _ (λ i less. cut_step counted_form page.scan p.scan _ _ (λ j less. cut_step option_digest_form page.after p.after _ _ (λ k less. cut_step (every_form w32 (2 ^ 32) wide32) page.writes p.writes _ _ (λ l less. cut_step (records_form 0) page.records p.records _ _ (λ m less. cut_step flag_form page.more tt _ _ (λ z less. no_less z less) m less) l less) k less) j less) i less) k less;
  small = (lit< tt, small_step key_form page.key p.key _ (small_step counted_form page.scan p.scan _ (small_step option_digest_form page.after p.after _ (small_step (every_form w32 (2 ^ 32) wide32) page.writes p.writes _ (small_step (records_form 0) page.records p.records _ (small_step flag_form page.more tt _ tt))))));
}

pub spelled_scan_no : (scan : ℕ) (refusal : ScanRefusal) → IsProper (message.ScanNo scan refusal) → Spelled (message.ScanNo scan refusal)
unfolding scan_no_at spelling byte_field
spelled_scan_no scan refusal p = record {
  kind = 25;
  read = scan_no_at;
  text = number_field w32 scan ++ (refusal_field refusal ++ []);
  spelled = refl;
  known = refl;
  again = λ rest. again_step counted_form scan p.0 _ _ _ _ (again_step refusal_form refusal p.1 _ _ _ _ refl);
  cut = λ k less. cut_step counted_form scan p.0 _ _ (λ i less. cut_step refusal_form refusal p.1 _ _ (λ z less. no_less z less) i less) k less;
  small = (lit< tt, small_step counted_form scan p.0 _ (small_step refusal_form refusal p.1 _ tt));
}

pub spelled_heartbeat : (view promised : ClusterKey) (hears : List ℕ) (role : Role) → IsProper (message.Heartbeat view promised hears role) → is_plain role ≡ true
    → Spelled (message.Heartbeat view promised hears role)
unfolding heartbeat_at spelling byte_field
spelled_heartbeat view promised hears role p plain = record {
  kind = 1;
  read = heartbeat_at;
  text = key_field view ++ (key_field promised ++ (ids_field hears ++ []));
  spelled = rw plain refl;
  known = refl;
  again = λ rest. again_step key_or_none_form view p.0 _ _ _ _ (again_step key_or_none_form promised p.1 _ _ _ _ (again_step heard_form hears p.2 _ _ _ _ (ap (λ r. done (message.Heartbeat view promised hears r, rest)) (sym (plain_is role plain)))));
  cut = λ k less. cut_step key_or_none_form view p.0 _ _ (λ i less. cut_step key_or_none_form promised p.1 _ _ (λ j less. cut_step heard_form hears p.2 _ _ (λ z less. no_less z less) j less) i less) k less;
  small = (lit< tt, small_step key_or_none_form view p.0 _ (small_step key_or_none_form promised p.1 _ (small_step heard_form hears p.2 _ tt)));
}

role_test : (role : Role) → is_plain role ≡ false → (false || not (is_plain role)) ≡ true
role_test role h = rw h refl

pub spelled_heartbeat_with_role : (view promised : ClusterKey) (hears : List ℕ) (role : Role) → IsProper (message.Heartbeat view promised hears role) → is_plain role ≡ false
    → Spelled (message.Heartbeat view promised hears role)
unfolding heartbeat_with_role_at spelling byte_field
spelled_heartbeat_with_role view promised hears role p named = record {
  kind = 16;
  read = heartbeat_with_role_at;
  text = key_field view ++ (key_field promised ++ (ids_field hears ++ (role_field role ++ [])));
  spelled = rw named refl;
  known = refl;
  again = λ rest. again_step key_or_none_form view p.0 _ _ _ _ (again_step key_or_none_form promised p.1 _ _ _ _ (again_step heard_form hears p.2 _ _ _ _ (again_step (role_form false) role (record { test = role_test role named; rack = p.3 }) _ _ _ _ refl)));
  cut = λ k less. cut_step key_or_none_form view p.0 _ _ (λ i less. cut_step key_or_none_form promised p.1 _ _ (λ j less. cut_step heard_form hears p.2 _ _ (λ l less. cut_step (role_form false) role (record { test = role_test role named; rack = p.3 }) _ _ (λ z less. no_less z less) l less) j less) i less) k less;
  small = (lit< tt, small_step key_or_none_form view p.0 _ (small_step key_or_none_form promised p.1 _ (small_step heard_form hears p.2 _ (small_step (role_form false) role (record { test = role_test role named; rack = p.3 }) _ tt))));
}

pub spelled_propose : (key : ClusterKey) (members : List Member) → IsProper (message.Propose key members) → all_plain members ≡ true → Spelled (message.Propose key members)
unfolding propose_at spelling byte_field
spelled_propose key members p plain = record {
  kind = 2;
  read = propose_at;
  text = key_field key ++ (plain_members_field members ++ []);
  spelled = rw plain refl;
  known = refl;
  again = λ rest. again_step key_form key p.0 _ _ _ _ (again_step plain_members_form members (record { plain = plain; field = p.1 }) _ _ _ _ refl);
  cut = λ k less. cut_step key_form key p.0 _ _ (λ i less. cut_step plain_members_form members (record { plain = plain; field = p.1 }) _ _ (λ z less. no_less z less) i less) k less;
  small = (lit< tt, small_step key_form key p.0 _ (small_step plain_members_form members (record { plain = plain; field = p.1 }) _ tt));
}

pub spelled_propose_with_roles : (key : ClusterKey) (members : List Member) → IsProper (message.Propose key members) → all_plain members ≡ false → Spelled (message.Propose key members)
unfolding propose_with_roles_at spelling byte_field
spelled_propose_with_roles key members p roles = record {
  kind = 17;
  read = propose_with_roles_at;
  text = key_field key ++ (members_field members ++ []);
  spelled = rw roles refl;
  known = refl;
  again = λ rest. again_step key_form key p.0 _ _ _ _ (again_step members_form members (record { roles = roles; field = p.1 }) _ _ _ _ refl);
  cut = λ k less. cut_step key_form key p.0 _ _ (λ i less. cut_step members_form members (record { roles = roles; field = p.1 }) _ _ (λ z less. no_less z less) i less) k less;
  small = (lit< tt, small_step key_form key p.0 _ (small_step members_form members (record { roles = roles; field = p.1 }) _ tt));
}

pub spelled_commit : (key : ClusterKey) (members : List Member) → IsProper (message.Commit key members) → all_plain members ≡ true → Spelled (message.Commit key members)
unfolding commit_at spelling byte_field
spelled_commit key members p plain = record {
  kind = 5;
  read = commit_at;
  text = key_field key ++ (plain_members_field members ++ []);
  spelled = rw plain refl;
  known = refl;
  again = λ rest. again_step key_form key p.0 _ _ _ _ (again_step plain_members_form members (record { plain = plain; field = p.1 }) _ _ _ _ refl);
  cut = λ k less. cut_step key_form key p.0 _ _ (λ i less. cut_step plain_members_form members (record { plain = plain; field = p.1 }) _ _ (λ z less. no_less z less) i less) k less;
  small = (lit< tt, small_step key_form key p.0 _ (small_step plain_members_form members (record { plain = plain; field = p.1 }) _ tt));
}

pub spelled_commit_with_roles : (key : ClusterKey) (members : List Member) → IsProper (message.Commit key members) → all_plain members ≡ false → Spelled (message.Commit key members)
unfolding commit_with_roles_at spelling byte_field
spelled_commit_with_roles key members p roles = record {
  kind = 18;
  read = commit_with_roles_at;
  text = key_field key ++ (members_field members ++ []);
  spelled = rw roles refl;
  known = refl;
  again = λ rest. again_step key_form key p.0 _ _ _ _ (again_step members_form members (record { roles = roles; field = p.1 }) _ _ _ _ refl);
  cut = λ k less. cut_step key_form key p.0 _ _ (λ i less. cut_step members_form members (record { roles = roles; field = p.1 }) _ _ (λ z less. no_less z less) i less) k less;
  small = (lit< tt, small_step key_form key p.0 _ (small_step members_form members (record { roles = roles; field = p.1 }) _ tt));
}

-- ---- all kinds

pub spelled_of : (m : Message) → IsProper m → Spelled m
spelled_of (message.Heartbeat view promised hears role) p =
    elim (cases_Bool (is_plain role)) [
      | inl plain ↦ spelled_heartbeat view promised hears role p plain
      | inr named ↦ spelled_heartbeat_with_role view promised hears role p named
    ]
spelled_of (message.Propose key members) p =
    elim (cases_Bool (all_plain members)) [ inl plain ↦ spelled_propose key members p plain | inr roles ↦ spelled_propose_with_roles key members p roles ]
spelled_of (message.Accept key) p = spelled_accept key p
spelled_of (message.Refuse refused promised) p = spelled_refuse refused promised p
spelled_of (message.Commit key members) p =
    elim (cases_Bool (all_plain members)) [ inl plain ↦ spelled_commit key members p plain | inr roles ↦ spelled_commit_with_roles key members p roles ]
spelled_of (message.State key wants row) p = spelled_state key wants row p
spelled_of (message.Batch b) p = spelled_batch b p
spelled_of (message.BatchAck key number) p = spelled_batch_ack key number p
spelled_of (message.Progress key wants done handed settled) p = spelled_progress key wants done handed settled p
spelled_of (message.Repl key transaction nth digest version) p = spelled_repl key transaction nth digest version p
spelled_of (message.ReplAck key transaction) p = spelled_repl_ack key transaction p
spelled_of (message.Ask key transaction digest) p = spelled_ask key transaction digest p
spelled_of (message.Answer key transaction version) p = spelled_answer key transaction version p
spelled_of message.MapAsk p = spelled_map_ask
spelled_of (message.MapTable t) p = spelled_map_table t p
spelled_of (message.Proxy key number digest want) p = spelled_proxy key number digest want p
spelled_of (message.ProxyReply key number reply) p = spelled_proxy_reply key number reply p
spelled_of (message.Call number digest want) p = spelled_call number digest want p
spelled_of (message.Reply key number reply) p = spelled_reply key number reply p
spelled_of (message.ScanAsk scan partition after) p = spelled_scan_ask scan partition after p
spelled_of (message.ScanPage page) p = spelled_scan_page page p
spelled_of (message.ScanNo scan refusal) p = spelled_scan_no scan refusal p
