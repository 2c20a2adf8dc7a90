use Rattle.nvme_refinement.proofs.AdminStep.{admin_judged_as_its_request, admin_answers_its_request}
use Rattle.nvme_refinement.proofs.AnswerStep.{judged_as_its_request}
use Rattle.nvme_refinement.proofs.PostStep.{posting_has_room}
use Rattle.nvme_refinement.proofs.laws.postings_are_steps.Goals as goal

pub returns-clause-room : goal.returns-clause-room
returns-clause-room c = posting_has_room

pub returns-clause-judged : goal.returns-clause-judged
returns-clause-judged c = judged_as_its_request

pub returns-clause-admin_judged : goal.returns-clause-admin_judged
returns-clause-admin_judged c = admin_judged_as_its_request

pub returns-clause-admin_answers : goal.returns-clause-admin_answers
returns-clause-admin_answers c = admin_answers_its_request
