-- `lists::walk` meets its contract: each list is walked. Assumes nothing.
use Rattle.lists.proofs.walk.Goals as goal

pub returns-in-Compatible : goal.returns-in-Compatible
returns-in-Compatible c = rw c.in-Compatible.is c.walk_list.ensures

pub returns-in-Extended : goal.returns-in-Extended
returns-in-Extended c = rw c.in-Extended.is c.walk_list-in-Extended.ensures

pub returns-in-Trusted : goal.returns-in-Trusted
returns-in-Trusted c = rw c.in-Trusted.is c.walk_list-in-Trusted.ensures
