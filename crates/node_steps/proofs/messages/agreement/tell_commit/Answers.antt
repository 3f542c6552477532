use Rattle.node_steps.proofs.messages.agreement.tell_commit.Goals as goal

pub send_to_each-requires : goal.send_to_each-requires
send_to_each-requires c = (c.requires, c.members_fit.ensures)
