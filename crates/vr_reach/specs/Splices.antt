-- A list that is known, with other nodes in the place of some of its own.
use Rattle.std.specs.Prelude.{ℕ, List}
use Rattle.vr_reach.specs.Spliced.{spliced}
use Rattle.vr_reach.specs.declared.known_list.KnownList.{KnownList}
use Rattle.vr_reach.specs.declared.spliced.Splice.{Splice}

-- the list that a splice makes of a known one
abbrev pub spliced_by : KnownList → Splice → List ℕ
spliced_by known splice = spliced known.list.now splice.front splice.behind splice.middle.now
