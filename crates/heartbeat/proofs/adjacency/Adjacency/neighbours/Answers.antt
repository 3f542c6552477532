use Rattle.std.proofs.Common.{◌∙◌, ap, arith, ◌≡◌, true, false}
use Rattle.cluster_types.specs.Members.{AreMembers}
use Rattle.node_rules.specs.Hearing.{neighbours_of}
use Rattle.heartbeat.specs.Adjacent.{Adjacent}
use Rattle.heartbeat.specs.Entries.{of_itself}
use Rattle.heartbeat.proofs.EntryLaws.{around, named_members, shown_neighbours, itself_named}
use Rattle.heartbeat.proofs.adjacency.Adjacency.neighbours.Goals as goal

pub unreachable-requires : goal.unreachable-requires
unreachable-requires c =
    let members : AreMembers c.as_slice-2.result.now =
    rw (c.as_slice-2.ensures, c.members_naming-naming.ensures, c.as_slice.ensures.same)
    (named_members c.self.inside.me c.self.inside.heard (of_itself c.self.inside.me c.self.inside.role) c.self.invariant.falls
    (omega (arith, around c.self.inside.me c.self.inside.heard, c.self.invariant.limit))
    (itself_named c.self.inside.me c.self.inside.role)) in
    let wrong : false ≡ true = c.in-Err.ensures.valid.1 members in
    cc

pub returns : goal.returns
returns c =
    c.in-Ok.ensures.ok ∙ c.as_slice-2.ensures ∙ c.members_naming-naming.ensures
    ∙ rw c.as_slice.ensures.same
    (shown_neighbours c.self.inside.me c.self.inside.role c.self.inside.heard c.self.invariant.falls (itself_named c.self.inside.me c.self.inside.role)
    ∙ ap (λ (a : Adjacent). neighbours_of a.me a.role a.hearing.heard) c.self.view_is)
