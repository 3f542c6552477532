use Rattle.std.proofs.Common.{◌≡◌, [], false, sym, arith}
use Rattle.std.specs.List.{list_any}
use Rattle.request_rules.specs.Passing.{leaves, with_given_up}
use Rattle.node_requests.specs.declared.leaving.GivenUp.{GivenUp}
use Rattle.node_requests.specs.Leaving.{with_lines_of}
use Rattle.node_requests.proofs.LeavingLaws.{nothing_numbered, nothing_waits, staying, with_lines_is}
use Rattle.node_requests.proofs.ListLaws.{if_ok}
use Rattle.node_requests.proofs.leaving.with_given_up.Goals as goal
use Rattle.node_requests.proofs.leaving.with_given_up.Goals.{then-is_idle-via-then-is_idle, then-is_idle-via-else-is_idle+then-not-any_leaves}

pub returns-then-is_idle : goal.returns-then-is_idle
returns-then-is_idle c = elim c.then-is_idle.branch [
  | then-is_idle-via-then-is_idle w ↦
      (let none : c.args.proxies.now.passed.waiting ≡ [] = grind (arith, c.is_idle.ensures, w.if-is_idle.true) in
      sym (nothing_waits c.args.proxies.now.passed.waiting c.args.key c.args.node c.args.lines none))
  | then-is_idle-via-else-is_idle+then-not-any_leaves w ↦
      (let stays : list_any (leaves c.args.node) c.args.lines ≡ false = grind (arith, w.any_leaves.ensures, w.if-not-any_leaves.true) in
      sym (staying c.args.proxies.now.passed.waiting c.args.key c.args.node c.args.lines stays))
]

pub returns-then-is_empty : goal.returns-then-is_empty
returns-then-is_empty c =
    let none : c.in_ok-numbers.numbers ≡ [] = grind (arith, c.is_empty.ensures, c.if-is_empty.true) in
    sym (nothing_waits c.args.proxies.now.passed.waiting c.args.key c.args.node c.args.lines (nothing_numbered c.args.proxies.now.passed.waiting c.in_ok-numbers.numbers c.in_ok-numbers.ensures none))

pub returns : goal.returns
returns c =
    let given_up : GivenUp = record { node = c.args.node; key = c.args.key; numbers = c.in_ok-numbers.numbers } in
    if_ok c.with_lines_of.result (with_lines_of given_up c.args.lines) (with_given_up c.args.proxies.now.passed.waiting c.args.key c.args.node c.args.lines)
    (with_lines_is given_up c.args.proxies.now.passed.waiting c.args.lines (sym c.in_ok-numbers.ensures))
    c.with_lines_of.ensures
