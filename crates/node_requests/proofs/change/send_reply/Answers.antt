use Rattle.std.proofs.Common.{◌≡◌, sym, subst, arith}
use Rattle.wire_messages.specs.Proper.{IsProper}
use Rattle.request_rules.specs.Replies.{reply_to}
use Rattle.node_requests.proofs.change.send_reply.Goals as goal

pub encode-requires : goal.encode-requires
encode-requires c =
    let same : c.reply_to-message.result ≡ reply_to c.args.key c.args.asker c.args.reply.now = grind (arith, c.reply_to-message.ensures, c.in_ok-copy.ensures, c.in_ok-copy.was, c.copy.ensures) in
    subst IsProper (sym same) (c.requires 0 (c.args.asker.from, reply_to c.args.key c.args.asker c.args.reply.now) (omega arith))
