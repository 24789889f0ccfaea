-- A change of a single value follows those in the list.
use Rattle.std.proofs.Common.{replicate, append-nil, rules}
use Rattle.subst_document.specs.Changes.{slots, one, found_so_far}
use Rattle.subst_document.proofs.ChangeLemmas.{slots-append, alone}
use Rattle.subst_document.proofs.changes.FoundChanges.add.Goals as goal

pub returns-clause-found : goal.returns-clause-found
returns-clause-found c = search (rules, found_so_far, slots, append-nil, replicate, slots-append, alone, one)
