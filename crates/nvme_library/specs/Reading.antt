-- The result of reading a configuration's text, for C.
use Rattle.std.specs.Prelude.{◌≡◌, ◌⊎◌, ◌&&◌, ℕ, nat_le, Bool, true, false, List, ◌++◌, length, map, drop, Result}
use Rattle.nvme_spec.specs.Configuration.{Capacity, Configuration}
use Rattle.library_text.specs.Putting.{PutsIf}
use Rattle.library_text.specs.Reading.{Accepts, Refuses}
use Rattle.library_text.specs.Refusals.{position_of, reason_text}
use Rattle.library_text.specs.declared.putting.Unput.{Unput}
use Rattle.library_text.specs.declared.refused.Refused.{Refused}
use Rattle.library_text.specs.declared.refused.Refused.TheVariants.{TooLong, Line, Rule, Event, Empty, NoMemory}
use Rattle.nvme_library.specs.declared.configuration.Attached.{Attached}
use Rattle.nvme_library.specs.declared.configuration.Controller.{Controller}
use Rattle.nvme_library.specs.declared.configuration.Namespace.{Namespace}
use Rattle.nvme_library.specs.declared.reading.Read.{Read}
use Rattle.nvme_library.specs.Given.{given_controller, given_namespace, given_pair}
use Rattle.nvme_library.specs.Opening.{fault_number}
use Rattle.nvme_library.specs.Written.{length_of}

-- the code of a refusal
abbrev pub code_of : Refused → ℕ
code_of TooLong = 38
code_of (Line n fault) = 35
code_of (Rule n fault broken) = fault_number fault
code_of (Event n column) = 36
code_of Empty = 37
code_of NoMemory = 27

-- the buffers of C: three arrays, and a text for a reason
pub record Rooms : Type 0 where
  pub controllers : List Controller
  pub namespaces : List Namespace
  pub attached : List Attached
  pub reason : List ℕ

abbrev pub without_read : ℕ → Read
without_read what = record {
  controllers = 0;
  namespaces = 0;
  attached = 0;
  line = 0;
  column = 0;
  length = 0;
  what = what;
}

abbrev pub read_of : Configuration → Read
read_of c = record (without_read 0) {
  controllers = length c.controllers;
  namespaces = length c.namespaces;
  attached = length c.attached;
}

abbrev pub refused_read : Refused → ℕ → Read
refused_read r len = record (without_read (code_of r)) {
  line = (position_of r).0;
  column = (position_of r).1;
  length = len;
}

abbrev pub has_room : Configuration → Rooms → Bool
has_room c rooms =
    nat_le (length c.controllers) (length rooms.controllers)
    && (nat_le (length c.namespaces) (length rooms.namespaces)
    && nat_le (length c.attached) (length rooms.attached))

-- the arrays begin with a configuration
abbrev pub given : Configuration → Rooms → Rooms
given c rooms = record rooms {
  controllers = map given_controller c.controllers ++ drop (length c.controllers) rooms.controllers;
  namespaces = map given_namespace c.namespaces ++ drop (length c.namespaces) rooms.namespaces;
  attached = map given_pair c.attached ++ drop (length c.attached) rooms.attached;
}

abbrev pub GivesWhere : Bool → Configuration → Read → Rooms → Rooms → Type 0
GivesWhere true c read old new = (read ≡ read_of c) × (new ≡ given c old)
GivesWhere false c read old new = (read ≡ without_read 33) × (new ≡ old)

abbrev pub Gives : Configuration → Read → Rooms → Rooms → Type 0
Gives c read old new = GivesWhere (has_room c old) c read old new

-- the answer is an error, and the buffer has the reason if it fits
abbrev pub Told : Refused → Read → List ℕ → List ℕ → Type 0
Told r read old new =
    (put : Result ℕ Unput) × (read ≡ refused_read r (length_of put)) × PutsIf (reason_text r) put old new

abbrev pub Tells : Refused → Read → Rooms → Rooms → Type 0
Tells r read old new = Told r read old.reason new.reason × (new ≡ record old { reason = new.reason })

-- A text is read: the result is a configuration, or an error with its reason.
abbrev pub ReadsText : List ℕ → Capacity → Read → Rooms → Rooms → Type 0
ReadsText text size read old new =
    ((c : Configuration) × Accepts text size c × Gives c read old new)
    ⊎ ((r : Refused) × Refuses text size r × Tells r read old new)
