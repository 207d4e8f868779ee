use Rattle.vr_steps.proofs.EvenModel.{is_even, three}
use Rattle.vr_steps.proofs.weights.some_model_is_even.Goals as goal

pub returns : goal.returns
returns c = (three, is_even)
