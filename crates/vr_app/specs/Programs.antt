-- What is promised of each run of a program, whatever its words ask for. When 0, 1, 4, 5, 6, 8 or 9 comes is said of
-- runs whose status is none of 2, 3 and 7.
use Rattle.std.specs.Prelude.{◌≡◌, ◌≢◌, ◌⊎◌, ◌≤◌, ℕ, Bool, true, false, List, [], Option, Some, length}
use Rattle.vr_io.specs.Edges.{Rose, Took}
use Rattle.vr_io.specs.Whole.{TookFront}
use Rattle.vr_app.specs.Input.{max_input}
use Rattle.vr_app.specs.Reply.{Replies, Reply}
use Rattle.vr_app.specs.Runs.{IsStatusOfAnswer, WhereKnown}

-- what a program replies to words and the bytes of an input, and whether the words have the input read
pub record Program : Type 0 where
  pub reply : List (List ℕ) → List ℕ → Reply
  pub is_read : List (List ℕ) → Bool

-- a run, as promises speak of it
pub record Run : Type 0 where
  -- its words, as bytes
  pub words : List (List ℕ)
  -- what the source has left before it and after it, if it is known
  pub left_before : Option (List ℕ)
  pub left_after : Option (List ℕ)
  -- how often the source has failed before it and after it
  pub read_faults_before : ℕ
  pub read_faults_after : ℕ
  -- what the sink has taken before it and after it, if it is known
  pub written_before : Option (List ℕ)
  pub written_after : Option (List ℕ)
  -- how often the sink has failed before it and after it
  pub write_faults_before : ℕ
  pub write_faults_after : ℕ
  pub status : ℕ

-- the run of these words, between these states of source and sink
abbrev pub program_run : List (List ℕ) → Option (List ℕ) → Option (List ℕ) → ℕ → ℕ → Option (List ℕ) → Option (List ℕ)
    → ℕ → ℕ → ℕ → Run
program_run words left_before left_after read_faults_before read_faults_after written_before written_after
    write_faults_before write_faults_after status = record {
      words = words;
      left_before = left_before;
      left_after = left_after;
      read_faults_before = read_faults_before;
      read_faults_after = read_faults_after;
      written_before = written_before;
      written_after = written_after;
      write_faults_before = write_faults_before;
      write_faults_after = write_faults_after;
      status = status;
    }

-- a source or a sink, before a run and after it
pub record Passed (A : Type 0) : Type 0 where
  pub old : A
  pub new : A

-- the text was written, and is the only one
abbrev pub Wrote : Run → List ℕ → Type 0
Wrote run text = Took run.written_before run.written_after text

-- the words of the run have the input read
abbrev pub Reads : Program → Run → Type 0
Reads program run = program.is_read run.words ≡ true

-- they are not accepted, or the input is not read
abbrev pub ReadsNone : Program → Run → Type 0
ReadsNone program run = program.is_read run.words ≡ false

-- status and text are those of the reply to this input
abbrev pub RepliesAs : Program → Run → List ℕ → Type 0
RepliesAs program run bytes =
    Replies (program.reply run.words bytes) run.written_before run.written_after run.status

-- a front of the text of the reply to this input was written
abbrev pub WroteFront : Program → Run → List ℕ → Type 0
WroteFront program run bytes =
    TookFront run.written_before run.written_after (program.reply run.words bytes).text

-- The reply: if the run was settled, its status and whole text are those of the definition. If nothing is read, that
-- holds whatever the source has. If the sink failed, a front of the text is written.
pub record IsReplyOf (program : Program) (run : Run) : Type 0 where
  pub read : IsStatusOfAnswer run.status → WhereKnown run.left_before (RepliesAs program run)
  pub unread : IsStatusOfAnswer run.status → ReadsNone program run → (bytes : List ℕ) → RepliesAs program run bytes
  pub front : run.status ≡ 3 → WhereKnown run.left_before (WroteFront program run)
  pub unread_front : run.status ≡ 3 → ReadsNone program run → (bytes : List ℕ) → WroteFront program run bytes

-- Words that read, an input of at most 64 MiB, and no failure of source or sink: the whole reply, or out of memory. Of
-- words that read nothing, a sink that does not fail is enough.
pub record IsCompleteBy (program : Program) (run : Run) : Type 0 where
  pub read : Reads program run → WhereKnown run.left_before (λ bytes. length bytes ≤ max_input
      → (Rose run.read_faults_before run.read_faults_after → ⊥)
      → (Rose run.write_faults_before run.write_faults_after → ⊥)
      → (run.status ≡ 7) ⊎ RepliesAs program run bytes)
  pub unread : ReadsNone program run → (Rose run.write_faults_before run.write_faults_after → ⊥) → (bytes : List ℕ)
      → (run.status ≡ 7) ⊎ RepliesAs program run bytes

-- Status 2 comes exactly if the source failed, of words that read, and 3 exactly if the sink failed. Else their counts
-- of failures stay as they are.
pub record HasFailedOf (reads_input : Type 0) (run : Run) : Type 0 where
  pub read_fault : run.status ≡ 2 → Rose run.read_faults_before run.read_faults_after
  pub reads : run.status ≡ 2 → reads_input
  pub write_fault : run.status ≡ 3 → Rose run.write_faults_before run.write_faults_after
  pub read_fault_only : run.status ≢ 2 → run.read_faults_after ≡ run.read_faults_before
  pub write_fault_only : run.status ≢ 3 → run.write_faults_after ≡ run.write_faults_before

-- If the input is read, it is read to its end on every status but 2, 7 and 8. On status 3 it is if the reply is not 8.
abbrev pub IsEmptiedBy : Program → Run → Type 0
IsEmptiedBy program run = Reads program run → run.status ≢ 2 → run.status ≢ 7 → run.status ≢ 8
    → WhereKnown run.left_before (λ bytes. (run.status ≡ 3 → (program.reply run.words bytes).status ≢ 8)
    → run.left_after ≡ Some [])
