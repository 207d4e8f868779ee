use Rattle.std.proofs.Common.{ℕ, List, subst}
use Rattle.std.proofs.lemmas.Result.{IfOk-weaker}
use Rattle.serde_json.specs.View.{view}
use Rattle.vr_json.specs.Reading.{Answers}
use Rattle.vr_json.proofs.Readings.{answered}
use Rattle.vr_json.proofs.Steps.{stops, then}
use Rattle.vr_refine.specs.Inputs.{priced_from, priced_of}
use Rattle.vr_refine.proofs.ReadLemmas.{priced_ensures}
use Rattle.vr_refine.proofs.inputs.read_priced.Goals as goal

pub returns-in_err-given-clause-found : goal.returns-in_err-given-clause-found
unfolding priced_of
returns-in_err-given-clause-found c = stops _ _ c.in_err-given.ensures.found c.from_residual.ensures.1

pub returns-clause-found : goal.returns-clause-found
unfolding priced_of
returns-clause-found c =
    let P : List ℕ → Type 0 = λ path. Answers c.priced_from.result (priced_from path c.in_ok-given.given.model c.in_ok-given.given.routes) in
    then _ c.in_ok-given.ensures.found (subst P c.root-path.ensures c.priced_from.ensures)

pub returns-clause-well_formed : goal.returns-clause-well_formed
returns-clause-well_formed c =
    IfOk-weaker c.priced_from.result _ _ (λ it sound. sound.well_formed) (answered (priced_ensures (view c.args.value)) (returns-clause-found c))

pub returns-clause-are_lists : goal.returns-clause-are_lists
returns-clause-are_lists c =
    IfOk-weaker c.priced_from.result _ _ (λ it sound. sound.are_lists) (answered (priced_ensures (view c.args.value)) (returns-clause-found c))
