use Rattle.std.proofs.Common.{refl}
use Rattle.nvme_spec.specs.declared.command.AdminCommand.TheVariants.{
  Identify,
  SetFeatures,
  GetFeatures,
  NamespaceAttachment,
}
use Rattle.nvme_admin.proofs.Executing.{
  unlisted,
  other,
  identified,
  set,
  got,
  attached,
  list-passes,
  list-refuses,
  queues-done,
}
use Rattle.nvme_admin.proofs.execution.carry_out.Goals as goal

pub returns-in-Identify-clause-passed : goal.returns-in-Identify-clause-passed
returns-in-Identify-clause-passed c = unlisted _ _ _ _ (other _ Identify NamespaceAttachment c.in-Identify.is (λ e. cc))

pub returns-in-Identify-clause-done : goal.returns-in-Identify-clause-done
returns-in-Identify-clause-done c =
    identified _ _ _ _ _ _ _ _ c.requires.admitted c.requires.placed c.in-Identify.is c.identify.ensures.stored
    c.completed.ensures

pub returns-in-SetFeatures-clause-passed : goal.returns-in-SetFeatures-clause-passed
returns-in-SetFeatures-clause-passed c =
    unlisted _ _ _ _ (other _ SetFeatures NamespaceAttachment c.in-SetFeatures.is (λ e. cc))

pub returns-in-SetFeatures-clause-done : goal.returns-in-SetFeatures-clause-done
returns-in-SetFeatures-clause-done c =
    set _ _ _ _ _ _ _ _ _ c.requires.admitted c.requires.placed c.in-SetFeatures.is c.set_features-dw0.ensures.dw0
    c.set_features-dw0.ensures.world c.completed-in-SetFeatures.ensures

pub returns-in-GetFeatures-clause-passed : goal.returns-in-GetFeatures-clause-passed
returns-in-GetFeatures-clause-passed c =
    unlisted _ _ _ _ (other _ GetFeatures NamespaceAttachment c.in-GetFeatures.is (λ e. cc))

pub returns-in-GetFeatures-clause-done : goal.returns-in-GetFeatures-clause-done
returns-in-GetFeatures-clause-done c =
    got _ _ _ _ _ _ _ _ _ c.requires.admitted c.requires.placed c.in-GetFeatures.is c.get_features-dw0.ensures.dw0
    c.get_features-dw0.ensures.stored c.completed-in-GetFeatures.ensures

pub returns-in-Ok-clause-passed : goal.returns-in-Ok-clause-passed
returns-in-Ok-clause-passed c =
    list-passes _ _ _ _ _ _ c.requires.admitted c.requires.placed c.in-NamespaceAttachment.is
    (c.in-Ok.ensures {u = tt}).changed

pub returns-in-Ok-clause-done : goal.returns-in-Ok-clause-done
returns-in-Ok-clause-done c =
    attached _ _ _ _ _ _ _ _ c.requires.admitted c.requires.placed c.in-NamespaceAttachment.is
    (c.in-Ok.ensures {u = tt}).changed c.completed-in-Ok.ensures

pub returns-in-Err-clause-refused : goal.returns-in-Err-clause-refused
returns-in-Err-clause-refused c =
    list-refuses _ _ _ _ _ _ c.requires.admitted c.requires.placed c.in-NamespaceAttachment.is
    (c.in-Err.ensures {u = tt}).refused

pub returns-in_default-clause-passed : goal.returns-in_default-clause-passed
returns-in_default-clause-passed c = unlisted _ _ _ _ c.in_default.not-NamespaceAttachment

pub returns-in_default-clause-done : goal.returns-in_default-clause-done
returns-in_default-clause-done c =
    queues-done _ _ _ _ _ _ _ _ c.requires.admitted c.requires.placed refl c.in_default.not-Identify
    c.in_default.not-SetFeatures c.in_default.not-GetFeatures
    c.in_default.not-NamespaceAttachment c.completed-in_default.ensures
