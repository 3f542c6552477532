use Rattle.std.proofs.Common.{◌≡◌, ◌<◌, ◌+◌, ℕ, List, [], ◌∷◌, Option, Some, refl, sym, ap, subst, ◌∙◌, arith}
use Rattle.std.specs.Prelude.{IfSome, IsSomeAnd}
use Rattle.conflict_order.specs.Contents.{joined}
use Rattle.cluster_types.specs.Partitions.{partition_of}
use Rattle.record_store.specs.Store.{HasRoom}
use Rattle.dup_resolve.specs.declared.txn.Txn.{Txn}
use Rattle.dup_resolve.specs.Open as table
use Rattle.write_path.specs.Writes.{IsToWrite, records_with, version_in}
use Rattle.node_rules.specs.Stamps.{Writes, applies_at, applying}
use Rattle.node_rules.specs.Transactions as rules
use Rattle.node_view.specs.declared.notes.Write.{Write}
use Rattle.node_view.specs.Counts.{greatest_count}
use Rattle.node_view.specs.Views.{Viewed, view_of}
use Rattle.node_view.specs.Writes.{writes_of}
use Rattle.node_view.proofs.OutcomeLaws.{found_writing, is_to_write, is_writing, one_room}
use Rattle.node_view.proofs.ResolveLaws.{agrees, shows, write_noted, write_shown}
use Rattle.node_view.proofs.view.View.write_version.Goals as goal

pub overflow_add-nth : goal.overflow_add-nth
overflow_add-nth c =
    let i = c.self.inside in
    let x = is_writing c.args.self.now c.args.store.now c.args.transaction c.args.writing c.requires.ready in
    let here : partition_of x.0.digest ≡ c.args.p = sym (c.requires.partition ∙ ap partition_of x.1.digest) in
    let few : applies_at c.args.self.now.writes c.args.p < greatest_count = subst (λ (q : ℕ). applies_at c.args.self.now.writes q < greatest_count) here x.1.fits.count in
    let same : c.applies_at-nth.result ≡ applies_at c.args.self.now.writes c.args.p = c.applies_at-nth.ensures ∙ ap (λ (v : Viewed). applies_at v.writes c.args.p) c.self.view_is in
    omega (arith, few, same)

pub apply_planned-requires-clause-write : goal.apply_planned-requires-clause-write
apply_planned-requires-clause-write c =
    let i = c.self.inside in
    let x = is_writing c.args.self.now c.args.store.now c.args.transaction c.args.writing c.requires.ready in
    let there = found_writing i c.args.self.now c.args.store.now c.args.transaction c.args.writing x.0 c.self.invariant.noted c.self.view_is x.1 in
    subst (λ (o : Option Txn). IsSomeAnd o IsToWrite) (sym there) (is_to_write _ x.0 c.args.writing x.1.fits)

pub apply_planned-requires-clause-version : goal.apply_planned-requires-clause-version
apply_planned-requires-clause-version c =
    let i = c.self.inside in
    let x = is_writing c.args.self.now c.args.store.now c.args.transaction c.args.writing c.requires.ready in
    let there = found_writing i c.args.self.now c.args.store.now c.args.transaction c.args.writing x.0 c.self.invariant.noted c.self.view_is x.1 in
    ap Some x.1.fits.version ∙ sym (ap (λ (o : Option Txn). version_in c.args.writing.clock o) there)

pub apply_planned-requires-clause-room : goal.apply_planned-requires-clause-room
apply_planned-requires-clause-room c =
    let i = c.self.inside in
    let x = is_writing c.args.self.now c.args.store.now c.args.transaction c.args.writing c.requires.ready in
    let there = found_writing i c.args.self.now c.args.store.now c.args.transaction c.args.writing x.0 c.self.invariant.noted c.self.view_is x.1 in
    subst (λ (o : Option Txn). IfSome (table.txn_digest o) (λ d. HasRoom (d ∷ []) c.args.store.now.spare)) (sym there) (one_room x.0.digest c.args.store.now.spare x.1.room.store)

pub apply-requires-clause-room : goal.apply-requires-clause-room
apply-requires-clause-room c =
    let x = is_writing c.args.self.now c.args.store.now c.args.transaction c.args.writing c.requires.ready in
    subst (λ (v : Viewed). 0 < v.room.applies) (sym c.self.view_is) x.1.room.applies

pub apply-requires-clause-count : goal.apply-requires-clause-count
apply-requires-clause-count c =
    let x = is_writing c.args.self.now c.args.store.now c.args.transaction c.args.writing c.requires.ready in
    let here : partition_of x.0.digest ≡ c.args.p = sym (c.requires.partition ∙ ap partition_of x.1.digest) in
    let few : applies_at c.args.self.now.writes c.args.p < greatest_count = subst (λ (q : ℕ). applies_at c.args.self.now.writes q < greatest_count) here x.1.fits.count in
    subst (λ (v : Viewed). applies_at v.writes c.args.p < greatest_count) (sym c.self.view_is) few

pub invariant_of-self : goal.invariant_of-self
invariant_of-self c =
    let i = c.self.inside in
    let w : Write = record { version = c.args.writing.kept; nth = c.applies_at-nth.result + 1 } in
    agrees i c.apply_planned.new.txns c.applied.new.self c.apply.new.self c.self.invariant
    (write_noted i.txns c.apply_planned.new.txns i.notes c.applied.new.self c.args.transaction w c.args.writing.to c.apply_planned.ensures.applied c.applied.ensures.opened c.applied.ensures.notes c.self.invariant.noted)

pub returns-clause-view : goal.returns-clause-view
returns-clause-view c =
    let i = c.self.inside in
    let o = c.apply_planned.new.txns in
    let n = c.applied.new.self in
    let ws = c.apply.new.self in
    let t = c.args.transaction in
    let p = c.args.p in
    let w : Write = record { version = c.args.writing.kept; nth = c.applies_at-nth.result + 1 } in
    let room = (view_of (record i { txns = o; notes = n; writes = ws })).room in
    let ts = rules.changing (view_of i).transactions t (rules.with_write c.args.writing.kept (applies_at (writes_of i.writes) p + 1) c.args.writing.to) in
    shows (record i { writes = ws }) o n ts room c.apply_planned.ensures.applied.policy
    (write_shown i.txns o i.notes n t w c.args.writing.to c.apply_planned.ensures.applied c.applied.ensures.notes c.self.invariant.noted
    ∙ ap (λ (k : ℕ). rules.changing (view_of i).transactions t (rules.with_write c.args.writing.kept (k + 1) c.args.writing.to)) c.applies_at-nth.ensures) refl
    ∙ ap (λ (x : Writes). record (view_of i) { writes = x; transactions = ts; room = room }) c.apply.ensures
    ∙ ap (λ (v : Viewed). record v { writes = applying v.writes p; transactions = rules.changing v.transactions t (rules.with_write c.args.writing.kept (applies_at v.writes p + 1) c.args.writing.to); room = room }) c.self.view_is

pub returns-clause-versions : goal.returns-clause-versions
returns-clause-versions c =
    let i = c.self.inside in
    let s = c.args.store.now in
    let x = is_writing c.args.self.now s c.args.transaction c.args.writing c.requires.ready in
    let there = found_writing i c.args.self.now s c.args.transaction c.args.writing x.0 c.self.invariant.noted c.self.view_is x.1 in
    c.apply_planned.ensures.versions
    ∙ ap (λ (o : Option Txn). records_with s.by s.versions o c.args.writing.version) there
    ∙ ap (λ (d : List ℕ). joined s.by s.versions d c.args.writing.version) (sym x.1.digest)
