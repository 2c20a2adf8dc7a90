-- Commands and runs of the worked examples. Controllers 1 and 2 are of the hosts 0xa1 and 0xb2.
use Rattle.std.specs.Prelude.{ℕ, Bool, true, false, List, [], ◌∷◌, ◌++◌, replicate, Option, Some, None}
use Rattle.nvme_wire.specs.declared.status.Status.{Status}
use Rattle.nvme_fabrics.specs.declared.answer.Answer.{Answer}
use Rattle.nvme_fabrics.specs.declared.fabrics.Fabrics.{Fabrics}
use Rattle.nvme_fabrics.specs.declared.session.Judged.{Judged}
use Rattle.nvme_fabrics.specs.declared.session.Session.{Session}
use Rattle.nvme_fabrics.specs.declared.session.Session.TheVariants as session
use Rattle.nvme_fabrics.specs.declared.session.Subsystem.TheVariants as subsystem
use Rattle.nvme_fabrics.specs.Sessions.{connect}
use Rattle.nvme_fabrics.specs.Runs.{Input, Connects, world_after}

abbrev pub hosts : List (Option ℕ)
hosts = Some 0xa1 ∷ Some 0xb2 ∷ replicate 14 None

-- a Connect with RECFMT 0, this QID and this SQSIZE, for a host and a controller
abbrev pub entry : ℕ → ℕ → List ℕ
entry qid sqsize =
    (0x7f ∷ 0 ∷ 1 ∷ 0 ∷ 1 ∷ []) ++ replicate 37 0 ++ (qid ∷ 0 ∷ sqsize ∷ 0 ∷ []) ++ replicate 18 0

abbrev pub named : ℕ → ℕ → ℕ → List ℕ
named host cntlid name =
    (host ∷ []) ++ replicate 15 0 ++ (cntlid ∷ 0 ∷ []) ++ replicate 494 0 ++ (name ∷ []) ++ replicate 511 0

abbrev pub any_of : ℕ → List ℕ
any_of host =
    (host ∷ []) ++ replicate 15 0 ++ (0xff ∷ 0xff ∷ []) ++ replicate 494 0 ++ (0x6e ∷ []) ++ replicate 511 0

abbrev pub created : Status
created = record { sct = 0; sc = 0 }

abbrev pub judged : Judged
judged = record {
  subsystem = subsystem.Nvm;
  is_whole = true;
  is_known = true;
  is_allowed = true;
  is_enabled = true;
  created = created;
  authenticating = replicate 16 0;
}

-- connection 7 becomes the Admin Queue of controller 1, and connection 8 an I/O queue of it; the newest is first
abbrev pub two_queues : List Input
two_queues =
    Connects 8 (entry 1 31) (named 0xa1 1 0x6e) judged ∷ Connects 7 (entry 0 31) (any_of 0xa1) judged ∷ []

abbrev pub session_in : Bool → List Input → ℕ → Session
session_in has_keys run k = (world_after hosts has_keys run).sessions k

-- the answer to a Connect of connection 9 after these
abbrev pub answer_to : List ℕ → List ℕ → Judged → Answer
answer_to e d j =
    (connect (world_after hosts false two_queues).fabrics session.NotConnected 9 e d j).answer

-- a Fabrics command of this type and RECFMT, and a Property Set of CC with this value
abbrev pub other_command : ℕ → ℕ → List ℕ
other_command fctype recfmt = (0x7f ∷ 0 ∷ 1 ∷ 0 ∷ fctype ∷ []) ++ replicate 35 0 ++ (recfmt ∷ []) ++ replicate 23 0

abbrev pub set_cc : ℕ → List ℕ
set_cc value =
    (0x7f ∷ 0 ∷ 1 ∷ 0 ∷ 0 ∷ []) ++ replicate 39 0 ++ (0x14 ∷ 0 ∷ 0 ∷ 0 ∷ value ∷ []) ++ replicate 15 0

-- associations that no run makes: connection 7 is two queues
abbrev pub impossible : Fabrics
impossible = record {
  has_keys = false;
  controllers = record {
    host = Some 0xa1;
    association = Some (record {
      host_id = 0xb2;
      host_nqn = [];
      queues = Some 7 ∷ Some 7 ∷ None ∷ None ∷ None ∷ [];
    });
  } ∷ [];
}
