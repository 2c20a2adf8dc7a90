-- A connection in a struct that C code holds: whatever bytes it has, they are read as one value.
use Rattle.std.specs.Prelude.{ℕ, ◌==◌, if◌then◌else◌}
use Rattle.nvme_pdu.specs.declared.kind.Kind.{Kind}
use Rattle.nvme_pdu.specs.declared.kind.Kind.TheVariants.{
  IcReq,
  IcResp,
  H2cTermReq,
  C2hTermReq,
  CapsuleCmd,
  CapsuleResp,
  H2cData,
  C2hData,
  R2t,
}
use Rattle.nvme_connection.specs.declared.connection.Connection.{Connection}
use Rattle.nvme_connection.specs.declared.raw.RawConnection.{RawConnection}
use Rattle.nvme_connection.specs.declared.stage.Stage.{Stage}
use Rattle.nvme_connection.specs.declared.stage.Stage.TheVariants.{Taking, Whole, Complete, Ended}

abbrev pub stage_number : Stage → ℕ
stage_number Taking = 0
stage_number Whole = 1
stage_number Complete = 2
stage_number Ended = 3

-- a connection with another number has ended
abbrev pub stage_of : ℕ → Stage
stage_of number =
    if number == 0 then Taking
    else (if number == 1 then Whole
    else (if number == 2 then Complete else Ended))

abbrev pub kind_of : ℕ → Kind
kind_of number =
    if number == 0 then IcReq
    else (if number == 1 then IcResp
    else (if number == 2 then H2cTermReq
    else (if number == 3 then C2hTermReq
    else (if number == 4 then CapsuleCmd
    else (if number == 5 then CapsuleResp
    else (if number == 6 then H2cData
    else (if number == 7 then C2hData else R2t)))))))

abbrev pub value_of : RawConnection → Connection
value_of raw = record {
  stage = stage_of raw.stage;
  is_open = raw.is_open;
  agreed = raw.agreed;
  count = raw.count;
  kept = raw.kept;
  layout = record {
    kind = kind_of raw.kind;
    is_last = raw.is_last;
    header = raw.header;
    header_digest = raw.header_digest;
    data_offset = raw.data_offset;
    data_length = raw.data_length;
    data_digest = raw.data_digest;
    length = raw.length;
  };
}
