-- Statements of worked examples: texts that are put into a buffer or read from one, and what they leave.
use Rattle.std.specs.Prelude.{◌≡◌, ◌≢◌, ◌⊎◌, ℕ, List, ◌++◌, length, drop, Some, None}
use Rattle.nvme_spec.specs.Configuration.{Capacity, Configuration}
use Rattle.library_text.specs.Reading.{Accepts}
use Rattle.library_text.specs.Refusals.{position_of, reason_text}
use Rattle.library_text.specs.declared.refused.Refused.{Refused}
use Rattle.nvme_notices.specs.Keeping.{Notices}
use Rattle.nvme_library.specs.Holding.{Inside}
use Rattle.nvme_library.specs.Noticing.{Notifies}
use Rattle.nvme_library.specs.Reading.{Gives, ReadsText, Rooms, Tells, Told, code_of}
use Rattle.nvme_library.specs.Written.{Writes, WritesLine, without_text}
use Rattle.nvme_library.specs.declared.noticing.Change.{Change}
use Rattle.nvme_library.specs.declared.noticing.HostView.{HostView}
use Rattle.nvme_library.specs.declared.reading.Read.{Read}
use Rattle.nvme_library.specs.declared.written.Written.{Written}

-- The result of putting a text into a buffer says what the buffer has: with code 0 the text at its front, else all
-- bytes as they were. A line that is missing is answered 34.
pub record WritesHaveCodes : Type 0 where
  pub put : (text : List ℕ) (w : Written) (before after : List ℕ) → Writes text w before after → w.what ≡ 0
      → (w.length ≡ length text) × (after ≡ text ++ drop (length text) before)
  pub not_put : (text : List ℕ) (w : Written) (before after : List ℕ) → Writes text w before after → w.what ≢ 0
      → (w.length ≡ 0) × (after ≡ before)
  pub no_line : (w : Written) (before after : List ℕ) → WritesLine None w before after
      → (w ≡ without_text 34) × (after ≡ before)

-- A configuration that is read has one result. What is refused leaves the arrays as they were, and the code, the line
-- and the column are those of the reason, which is whole at the front of its buffer, or not there.
pub record ReadingsHaveCodes : Type 0 where
  pub determined : (c : Configuration) (one two : Read) (old new other : Rooms) → Gives c one old new
      → Gives c two old other → (one ≡ two) × (new ≡ other)
  pub explained : (r : Refused) (result : Read) (old new : Rooms) → Tells r result old new
      → (result.what ≡ code_of r) × (result.line ≡ (position_of r).0) × (result.column ≡ (position_of r).1)
  pub kept : (r : Refused) (result : Read) (old new : Rooms) → Tells r result old new
      → (new.controllers ≡ old.controllers) × (new.namespaces ≡ old.namespaces) × (new.attached ≡ old.attached)
  pub whole_reason : (r : Refused) (result : Read) (old new : List ℕ) → Told r result old new
      → (new ≡ reason_text r ++ drop (length (reason_text r)) old) ⊎ (new ≡ old)
  pub one_or_other : (text : List ℕ) (size : Capacity) (result : Read) (old new : Rooms)
      → ReadsText text size result old new
      → ((c : Configuration) × Accepts text size c) ⊎ (new.controllers ≡ old.controllers)

-- No notice is kept without a subsystem (16), nor for an action with a number above 4 (18).
pub record NoticesHaveCodes : Type 0 where
  pub closed : (k : ℕ) (change : Change) (before : HostView) (old new : Notices) (answer : ℕ)
      → Notifies k change before None old answer new → (answer ≡ 16) × (new ≡ old)
  pub no_action : (k : ℕ) (before : HostView) (s : Inside) (old new : Notices) (answer : ℕ)
      → Notifies k (record { nsid = 1; action = 5; issuer = 2 }) before (Some s) old answer new
      → (answer ≡ 18) × (new ≡ old)
