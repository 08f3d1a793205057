-- The iterator over members' names gives the node where it stands, and goes on to the one that the row of the value says.
-- Assumes nothing.
use Rattle.std.proofs.Common.{rules}
use Rattle.strings.proofs.Nodes.{ahead, leads_on}
use Rattle.strings.specs.Leads.{of_object}
use Rattle.strings.proofs.rows.KeysIterator.next.Goals as goal

pub after_at-self-requires : goal.after_at-self-requires
after_at-self-requires c = let a = ahead _ of_object _ c.args.self.now.leads c.if-end-at.false in (a.room, a.few)

pub invariant_of-self : goal.invariant_of-self
invariant_of-self c = record { leads = rw c.after_at-self.ensures (leads_on _ of_object _ c.args.self.now.leads c.if-end-at.false) }

pub returns-clause-goes : goal.returns-clause-goes
returns-clause-goes c = let past = (ahead _ of_object _ c.args.self.now.leads c.if-end-at.false).past in search rules
