-- Statements of `laws.rt`: what is written is read as it was written.
use Rattle.std.specs.Prelude.{
  ◌≡◌,
  ℕ,
  ◌+◌,
  ◌<◌,
  ◌≤◌,
  ◌^◌,
  Bool,
  false,
  List,
  length,
  take,
  Ok,
  Some,
}
use Rattle.nvme_pdu.specs.declared.agreed.Agreed.{Agreed}
use Rattle.nvme_pdu.specs.declared.fatal.Fatal.{Fatal}
use Rattle.nvme_pdu.specs.declared.fields.HostData.{HostData}
use Rattle.nvme_pdu.specs.declared.kind.Kind.TheVariants.{IcReq, IcResp, H2cTermReq, CapsuleCmd, H2cData}
use Rattle.nvme_pdu.specs.declared.layout.PduLayout.{PduLayout}
use Rattle.nvme_pdu.specs.declared.writing.Written.{Written}
use Rattle.nvme_pdu.specs.Agreeing.{agreed_of}
use Rattle.nvme_pdu.specs.Fields.{host_data, host_termination, command_of}
use Rattle.nvme_pdu.specs.HostPdus.{
  ic_request,
  termination_request,
  command,
  data_header,
  layout_with_data,
  FitsData,
  FitsHostData,
  FitsFatal,
}
use Rattle.nvme_pdu.specs.Layouts.{layout_of, without_data}
use Rattle.nvme_pdu.specs.Reading.{host_layout_of, entry_of, data_of, termination_of, granted_by}
use Rattle.nvme_pdu.specs.Wholes.{Parts, Fit, parts_of, whole_of}
use Rattle.nvme_pdu.specs.Writing.{ic_response, response, ready, controller_data, termination}

-- what a host has written is read by the controller
pub record RequestIsRead (pdo max_r2t : ℕ) (before a : Agreed) : Type 0 where
  pub layout : layout_of before (take 8 (ic_request pdo max_r2t a)) ≡ Ok (without_data IcReq 128 false false)
  pub agreed : agreed_of (ic_request pdo max_r2t a) ≡ Ok a

abbrev pub RequestsAreRead : Type 0
RequestsAreRead = (pdo max_r2t : ℕ) (before a : Agreed) → a.alignment ≤ 31 → RequestIsRead pdo max_r2t before a

abbrev pub termination_layout : ℕ → PduLayout
termination_layout n = record {
  kind = H2cTermReq;
  is_last = false;
  header = 24;
  header_digest = false;
  data_offset = 24;
  data_length = n;
  data_digest = false;
  length = 24 + n;
}

pub record TerminationIsRead (given pdo n : ℕ) (a : Agreed) (f : Fatal) : Type 0 where
  pub layout : layout_of a (take 8 (termination_request given pdo n f)) ≡ Ok (termination_layout n)
  pub fatal : host_termination (termination_request given pdo n f) ≡ f

abbrev pub TerminationsAreRead : Type 0
TerminationsAreRead =
    (given pdo n : ℕ) (a : Agreed) (f : Fatal) → FitsFatal f → n ≤ 128 → TerminationIsRead given pdo n a f

pub record CommandIsRead (a : Agreed) (pdo n : ℕ) (entry : List ℕ) : Type 0 where
  pub layout : layout_of a (take 8 (command a pdo n entry)) ≡ Ok (layout_with_data CapsuleCmd 72 false a pdo n)
  pub same : command_of (command a pdo n entry) ≡ entry

abbrev pub CommandsAreRead : Type 0
CommandsAreRead =
    (a : Agreed) (pdo n : ℕ) (entry : List ℕ) → FitsData 72 8192 a pdo n → length entry ≡ 64
    → CommandIsRead a pdo n entry

pub record HostDataIsRead (is_last : Bool) (a : Agreed) (pdo n : ℕ) (f : HostData) : Type 0 where
  pub layout : layout_of a (take 8 (data_header is_last a pdo n f))
      ≡ Ok (layout_with_data H2cData 24 is_last a pdo n)
  pub fields : host_data (data_header is_last a pdo n f) n ≡ Ok f

abbrev pub HostDataAreRead : Type 0
HostDataAreRead =
    (is_last : Bool) (a : Agreed) (pdo n : ℕ) (f : HostData) → FitsData 24 131072 a pdo n → FitsHostData f
    → HostDataIsRead is_last a pdo n f

-- what a controller has written is read by the host
pub record ResponseIsRead (a : Agreed) (entry : List ℕ) : Type 0 where
  pub layout : host_layout_of a (take 8 (response a entry).bytes) ≡ Ok (response a entry).layout
  pub same : entry_of (response a entry).bytes ≡ entry

abbrev pub ResponsesAreRead : Type 0
ResponsesAreRead = (a : Agreed) (entry : List ℕ) → length entry ≡ 16 → ResponseIsRead a entry

pub record ReadyIsRead (a : Agreed) (cid tag n : ℕ) : Type 0 where
  pub layout : host_layout_of a (take 8 (ready a cid tag n).bytes) ≡ Ok (ready a cid tag n).layout
  pub fields : data_of (ready a cid tag n).bytes ≡ record { cid = cid; tag = tag; offset = 0; count = n }

abbrev pub ReadiesAreRead : Type 0
ReadiesAreRead =
    (a : Agreed) (cid tag n : ℕ) → cid < 2 ^ 16 → tag < 2 ^ 16 → n < 2 ^ 32 → ReadyIsRead a cid tag n

pub record DataIsRead (a : Agreed) (cid n : ℕ) (w : Written) : Type 0 where
  pub layout : host_layout_of a (take 8 w.bytes) ≡ Ok w.layout
  pub fields : data_of w.bytes ≡ record { cid = cid; tag = 0; offset = 0; count = n }
  pub all : w.layout.data_length ≡ n

abbrev pub DataAreRead : Type 0
DataAreRead =
    (a : Agreed) (cid n : ℕ) (w : Written) → cid < 2 ^ 16 → controller_data a cid n ≡ Some w → DataIsRead a cid n w

pub record EndIsRead (a : Agreed) (f : Fatal) (received : ℕ) : Type 0 where
  pub layout : host_layout_of a (take 8 (termination f received).bytes) ≡ Ok (termination f received).layout
  pub fatal : termination_of (termination f received).bytes ≡ f

abbrev pub EndsAreRead : Type 0
EndsAreRead = (a : Agreed) (f : Fatal) (received : ℕ) → FitsFatal f → EndIsRead a f received

pub record GrantIsRead (before a : Agreed) : Type 0 where
  pub layout : host_layout_of before (take 8 (ic_response a)) ≡ Ok (without_data IcResp 128 false false)
  pub granted : granted_by (ic_response a) ≡ record {
    pfv = 0;
    cpda = 0;
    header_digests = a.header_digests;
    data_digests = a.data_digests;
    max_h2c_data = 131072;
  }

abbrev pub GrantsAreRead : Type 0
GrantsAreRead = (before a : Agreed) → GrantIsRead before a

-- a PDU that is put together comes apart into the same parts
pub record ComesApart (l : PduLayout) (p : Parts) : Type 0 where
  pub size : length (whole_of l p) ≡ l.length
  pub parts : parts_of l (whole_of l p) ≡ p

abbrev pub PdusComeApart : Type 0
PdusComeApart = (l : PduLayout) (p : Parts) → Fit l p → ComesApart l p
