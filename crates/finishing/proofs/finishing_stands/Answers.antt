use Rattle.finishing.proofs.Theorem.{finishable, are-runs, one-fragment, one-fragment-approved}
use Rattle.finishing.proofs.Shortest.{can-run}
use Rattle.finishing.proofs.Reached.{good-since, uploads-on}
use Rattle.finishing.proofs.finishing_stands.Goals as goal

pub returns : goal.returns
returns c = record { finishable = finishable; good = good-since; uploads = uploads-on; runs = are-runs; unapproved = one-fragment; approved = one-fragment-approved; possible = can-run }
