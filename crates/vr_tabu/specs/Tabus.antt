-- The tabu list in code.
use Rattle.std.specs.Prelude.{ℕ, ◌<◌, slice_index_or, IsTrue}
use Rattle.vr_model.specs.tables.Tables.{is_visit}
use Rattle.vr_model.specs.declared.records.Model.{Model}
use Rattle.vr_tabu.specs.TabuSearches.{TabuList as Tabus, is_tabu_visit}
use Rattle.vr_tabu.specs.declared.tabu_list.TabuList.{TabuList}

-- the round before which a visit is tabu; 0 if none is kept
abbrev pub until_at : TabuList → ℕ → ℕ
until_at tabus visit = slice_index_or tabus.until.items visit 0

-- what is kept
abbrev pub tabus_of : TabuList → Tabus
tabus_of tabus = record { round = tabus.round; until = until_at tabus }

-- each visit is tabu
abbrev pub AreAllTabu : Model → Tabus → Type 0
AreAllTabu model tabus =
    (visit : ℕ) → visit < model.nodes → IsTrue (is_visit model visit) → IsTrue (is_tabu_visit tabus visit)
