-- The names by which lists of moves are described, passed on from one place. Declares nothing.
pub use Rattle.vr_model.specs.tables.Numbers.{below, each, from_to}
pub use Rattle.vr_model.specs.tables.Tables.{pair_at, visits}
pub use Rattle.vr_model.specs.tables.WellFormed.{IsWellFormed}
pub use Rattle.vr_model.specs.routes.Routes.{route, vehicles}
pub use Rattle.vr_model.specs.moves.Moves.{gaps, has_chain, has_some_front, is_other, places, places_behind}
pub use Rattle.vr_model.specs.moves.Moves.{is_pair_inactive, is_pair_served, is_pair_together, moves_in}
pub use Rattle.vr_model.specs.declared.records.Model.{Model as Defined}
pub use Rattle.vr_model.specs.declared.neighbours.Move.{Move as Moved}
pub use Rattle.vr_model.specs.declared.neighbours.Move.TheVariants.{TwoOpt, OrOpt, Relocate, Exchange, Cross}
pub use Rattle.vr_model.specs.declared.neighbours.Move.TheVariants.{RelocatePair, PairActive, PairInactive}
pub use Rattle.vr_model.specs.declared.neighbours.Move.TheVariants.{MakeActive, MakeInactive, SwapActive}
pub use Rattle.vr_model.specs.declared.neighbours.Neighbourhood.TheVariants.{TwoOpt as TwoOptKind, OrOpt as OrOptKind}
pub use Rattle.vr_model.specs.declared.neighbours.Neighbourhood.TheVariants.{Relocate as RelocateKind}
pub use Rattle.vr_model.specs.declared.neighbours.Neighbourhood.TheVariants.{Exchange as ExchangeKind}
pub use Rattle.vr_model.specs.declared.neighbours.Neighbourhood.TheVariants.{Cross as CrossKind}
pub use Rattle.vr_model.specs.declared.neighbours.Neighbourhood.TheVariants.{RelocatePair as RelocatePairKind}
pub use Rattle.vr_model.specs.declared.neighbours.Neighbourhood.TheVariants.{PairActive as PairActiveKind}
pub use Rattle.vr_model.specs.declared.neighbours.Neighbourhood.TheVariants.{PairInactive as PairInactiveKind}
pub use Rattle.vr_model.specs.declared.neighbours.Neighbourhood.TheVariants.{MakeActive as MakeActiveKind}
pub use Rattle.vr_model.specs.declared.neighbours.Neighbourhood.TheVariants.{MakeInactive as MakeInactiveKind}
pub use Rattle.vr_model.specs.declared.neighbours.Neighbourhood.TheVariants.{SwapActive as SwapActiveKind}
