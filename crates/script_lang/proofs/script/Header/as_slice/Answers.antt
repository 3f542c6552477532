use Rattle.std.proofs.Common.{List, All, subst}
use Rattle.cluster_types.specs.NodeLists.{IsNodeList}
use Rattle.script_lang.specs.declared.script.HeaderLine.{HeaderLine}
use Rattle.script_lang.specs.Before.{nodes_of}
use Rattle.script_lang.specs.Headers.{IsProperHeaderLine}
use Rattle.script_lang.proofs.script.Header.as_slice.Goals as goal

pub returns-clause-ranges : goal.returns-clause-ranges
returns-clause-ranges c = subst (All IsProperHeaderLine) c.self.view_is c.self.invariant.ranges

pub returns-clause-nodes : goal.returns-clause-nodes
returns-clause-nodes c = subst (λ (ls : List HeaderLine). IsNodeList (nodes_of ls)) c.self.view_is c.self.invariant.nodes
