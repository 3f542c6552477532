use Rattle.std.proofs.Common.{◌≡◌, ◌+◌, ℕ, List, Some, is_some, option_map, refl, sym, ap, ◌∙◌}
use Rattle.std.specs.Option.{option_copied}
use Rattle.std.proofs.lemmas.Option.{none-some, same_Some}
use Rattle.cluster_types.specs.Partitions.{partition_of}
use Rattle.dup_resolve.specs.declared.txn.Txn.{Txn}
use Rattle.node_rules.specs.Facts.{list_at}
use Rattle.node_rules.specs.Stamps.{applies_at}
use Rattle.node_rules.specs.Standing.{other_replicas}
use Rattle.node_rules.specs.Transactions as rules
use Rattle.node_view.specs.Transactions.{kept_of}
use Rattle.node_view.specs.Views.{Viewed, digest_in, facts_in, viewed_key}
use Rattle.node_view.proofs.OutcomeLaws.{applies_at_place, found_writing, is_writing}
use Rattle.node_view.proofs.ResolveLaws.{found_changed}
use Rattle.node_view.proofs.view.View.apply.Goals as goal

pub unreachable-requires : goal.unreachable-requires
unreachable-requires c =
    let x = is_writing c.args.self.now c.args.store.now c.args.transaction c.args.writing c.requires in
    let there = found_writing c.self.inside c.args.self.now c.args.store.now c.args.transaction c.args.writing x.0 c.self.invariant.noted c.self.view_is x.1 in
    none-some (kept_of x.0) (ap option_copied (sym c.in_default.is) ∙ c.get.ensures ∙ there)

pub write_version-requires-clause-partition : goal.write_version-requires-clause-partition
write_version-requires-clause-partition c =
    let x = is_writing c.args.self.now c.args.store.now c.args.transaction c.args.writing c.requires in
    let there = found_writing c.self.inside c.args.self.now c.args.store.now c.args.transaction c.args.writing x.0 c.self.invariant.noted c.self.view_is x.1 in
    let same : Some c.in-Some.txn.now ≡ Some (kept_of x.0) = ap option_copied (sym c.in-Some.is) ∙ c.get.ensures ∙ there in
    let digest = ap (λ (t : Txn). t.digest) (same_Some c.in-Some.txn.now (kept_of x.0) same) in
    c.partition_of-p.ensures ∙ ap partition_of (digest ∙ sym x.1.digest)

pub returns-clause-node : goal.returns-clause-node
returns-clause-node c f h =
    let x = is_writing c.args.self.now c.args.store.now c.args.transaction c.args.writing c.requires in
    let there = found_writing c.self.inside c.args.self.now c.args.store.now c.args.transaction c.args.writing x.0 c.self.invariant.noted c.self.view_is x.1 in
    let same : Some c.in-Some.txn.now ≡ Some (kept_of x.0) = ap option_copied (sym c.in-Some.is) ∙ c.get.ensures ∙ there in
    let digest = ap (λ (t : Txn). t.digest) (same_Some c.in-Some.txn.now (kept_of x.0) same) in
    let p : c.partition_of-p.result ≡ partition_of (digest_in c.args.self.now c.args.transaction) = c.partition_of-p.ensures ∙ ap partition_of (digest ∙ sym x.1.digest) in
    applies_at_place f c.args.self.now c.write_version.new.self c.refresh.new.self c.args.store.now c.write_version.new.store c.count_own_write.new.store c.args.transaction (digest_in c.args.self.now c.args.transaction) c.self.inside.key c.count_at.result c.args.writing.kept c.args.writing.version c.args.writing.to
    c.partition_of-p.result p
    (record {
      view = c.write_version.ensures.view;
      looked = c.refresh.ensures.same;
      seen = c.refresh.ensures.live;
      kept = x.1.fits.kept;
      replicas = x.1.fits.to ∙ ap (λ (d : List ℕ). other_replicas (facts_in c.args.self.now c.args.store.now) (list_at (facts_in c.args.self.now c.args.store.now) (partition_of d))) (sym x.1.digest) ∙ ap (λ (q : ℕ). other_replicas (facts_in c.args.self.now c.args.store.now) (list_at (facts_in c.args.self.now c.args.store.now) q)) (sym p);
      versions = c.write_version.ensures.versions;
      stamps = c.write_version.ensures.stamps;
      by = c.write_version.ensures.policy;
      numbered = c.count_at.ensures;
      keyed = c.self.invariant.key ∙ ap viewed_key c.self.view_is;
      versions_after = c.count_own_write.ensures.versions;
      stamps_after = c.count_own_write.ensures.stamps;
      by_after = c.count_own_write.ensures.policy;
    })
    h

pub returns-clause-open : goal.returns-clause-open
returns-clause-open c =
    let w = c.args.writing in
    let v = c.args.self.now in
    let n = c.args.transaction in
    let p = c.partition_of-p.result in
    let after : rules.transaction c.refresh.new.self.transactions n ≡ option_map (rules.with_write w.kept (applies_at v.writes p + 1) w.to) (rules.transaction v.transactions n)
    = ap (λ (u : Viewed). rules.transaction u.transactions n) c.refresh.ensures.same
    ∙ ap (λ (u : Viewed). rules.transaction u.transactions n) c.write_version.ensures.view
    ∙ found_changed (rules.with_write w.kept (applies_at v.writes p + 1) w.to) (λ t. refl) n v.transactions in
    let x = is_writing v c.args.store.now n w c.requires in
    ap is_some (after ∙ ap (option_map (rules.with_write w.kept (applies_at v.writes p + 1) w.to)) x.1.found)
