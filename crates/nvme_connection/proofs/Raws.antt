-- What was written to a struct of C code is read back.
use Rattle.std.proofs.Common.{◌≡◌, refl}
use Rattle.nvme_pdu.specs.declared.kind.Kind.{Kind}
use Rattle.nvme_pdu.specs.declared.kind.Kind.TheVariants.{
  IcReq,
  IcResp,
  H2cTermReq,
  C2hTermReq,
  CapsuleCmd,
  CapsuleResp,
  H2cData,
  C2hData,
  R2t,
}
use Rattle.nvme_pdu.specs.Headers.{number_of}
use Rattle.nvme_connection.specs.declared.stage.Stage.{Stage}
use Rattle.nvme_connection.specs.declared.stage.Stage.TheVariants.{Taking, Whole, Complete, Ended}
use Rattle.nvme_connection.specs.Raws.{kind_of, stage_number, stage_of}

pub kinds_come_back : (k : Kind) → kind_of (number_of k) ≡ k
kinds_come_back IcReq = refl
kinds_come_back IcResp = refl
kinds_come_back H2cTermReq = refl
kinds_come_back C2hTermReq = refl
kinds_come_back CapsuleCmd = refl
kinds_come_back CapsuleResp = refl
kinds_come_back H2cData = refl
kinds_come_back C2hData = refl
kinds_come_back R2t = refl

pub stages_come_back : (s : Stage) → stage_of (stage_number s) ≡ s
stages_come_back Taking = refl
stages_come_back Whole = refl
stages_come_back Complete = refl
stages_come_back Ended = refl
