use Rattle.std.proofs.Common.{◌≡◌, [], length, drop, map}
use Rattle.serde_json.specs.View.{view}
use Rattle.vr_json.specs.Reading.{entries}
use Rattle.vr_json.proofs.arrays.entries.Given as goal

abbrev pub invariant-loop-k : goal.invariant-loop-k
invariant-loop-k g l = record {
  counted : length l.found ≡ l.k;
  so_far : entries (g.R.Reader.reads l.reader) l.found l.path (map view (drop l.k l.values))
      ≡ entries (g.R.Reader.reads l.reader) [] l.path (map view l.values);
}
