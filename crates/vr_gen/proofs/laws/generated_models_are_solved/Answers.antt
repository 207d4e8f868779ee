use Rattle.vr_gen.proofs.Solved.{generated_models_are_solved}
use Rattle.vr_gen.proofs.laws.generated_models_are_solved.Goals as goal

pub returns : goal.returns
returns c = generated_models_are_solved
