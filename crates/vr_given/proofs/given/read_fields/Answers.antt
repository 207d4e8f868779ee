use Rattle.std.proofs.Common.{refl}
use Rattle.serde_json.specs.View.{view}
use Rattle.vr_json.proofs.Readings.{answered}
use Rattle.vr_json.proofs.Steps.{then, stops, gives}
use Rattle.vr_given.specs.Givens.{given_at}
use Rattle.vr_given.proofs.GivenLemmas.{given_ensures}
use Rattle.vr_given.proofs.given.read_fields.Goals as goal

pub returns-in_err-model-clause-found : goal.returns-in_err-model-clause-found
unfolding given_at
returns-in_err-model-clause-found c = stops _ _ c.in_err-model.ensures c.from_residual.ensures.1

pub returns-in_err-routes-clause-found : goal.returns-in_err-routes-clause-found
unfolding given_at
returns-in_err-routes-clause-found c = then _ c.in_ok-model.ensures (stops _ _ c.in_err-routes.ensures c.from_residual-in_err-routes.ensures.1)

pub returns-in_err-wish-clause-found : goal.returns-in_err-wish-clause-found
unfolding given_at
returns-in_err-wish-clause-found c =
    then _ c.in_ok-model.ensures (then _ c.in_ok-routes.ensures (stops _ _ c.in_err-wish.ensures c.from_residual-in_err-wish.ensures.1))

pub returns-in_err-known-clause-found : goal.returns-in_err-known-clause-found
unfolding given_at
returns-in_err-known-clause-found c = then _ c.in_ok-model.ensures
    (then _ c.in_ok-routes.ensures (then _ c.in_ok-wish.ensures (stops _ _ c.in_err-known.ensures c.from_residual-in_err-known.ensures.1)))

pub returns-clause-found : goal.returns-clause-found
unfolding given_at
returns-clause-found c = then _ c.in_ok-model.ensures (then _ c.in_ok-routes.ensures (then _ c.in_ok-wish.ensures (then _ c.in_ok-known.ensures (gives refl))))

pub returns-clause-sound : goal.returns-clause-sound
returns-clause-sound c = answered (given_ensures c.args.fields.path.now (view c.args.fields.value.now)) (returns-clause-found c)
