-- What the contracts of private functions cite beside the rules' own definitions: the rules' answer for each case of a private type.
use Rattle.std.specs.Prelude.{Result, Ok, Err}
use Rattle.refusal.specs.Refusal.{number_of, value_of}
use Rattle.refusal.specs.declared.Refusal.{Refusal}
use Rattle.catalog.specs.Round.{Round, stop, again}
use Rattle.catalog.specs.Check.{Checking, refused, Checkpoint, checkpoint}
use Rattle.catalog.specs.Lookup.{Saying, ends, found, refused as unfound, below, above, back}
use Rattle.catalog.specs.declared.checking.Passed.{Passed}
use Rattle.catalog.specs.declared.searching.Says.{Says}
use Rattle.catalog.specs.declared.searching.Says.TheVariants.{Found, Below, Above, Back}

abbrev pub paper_passed : Result Passed Refusal → Round Checking Checkpoint
paper_passed (Ok passed) = again (checkpoint passed.page passed.last)
paper_passed (Err r) = stop (refused (number_of r) (value_of r))

abbrev pub paper_says : Result Says Refusal → Saying
paper_says (Ok (Found position len)) = ends (found position len)
paper_says (Ok (Below stored after)) = below stored after
paper_says (Ok (Above stored)) = above stored
paper_says (Ok Back) = back
paper_says (Err r) = ends (unfound (number_of r) (value_of r))
