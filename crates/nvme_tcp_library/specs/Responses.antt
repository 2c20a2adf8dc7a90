-- Responses for C.
use Rattle.std.specs.Prelude.{ℕ, Bool, if◌then◌else◌, List, Option, Some, None, Result, Ok, Err}
use Rattle.nvme_responses.specs.declared.refused.Refused.{Refused}
use Rattle.nvme_responses.specs.declared.refused.Refused.TheVariants as refused
use Rattle.nvme_responses.specs.declared.reply.Reply.{Reply}
use Rattle.nvme_responses.specs.declared.reply.Response.{Response}
use Rattle.nvme_responses.specs.Entries.{entry}
use Rattle.nvme_tcp_library.specs.declared.responses.RawReply.{RawReply}

abbrev pub reply_of : RawReply → Reply
reply_of r = record { cid = r.cid; status = record { sct = r.sct; sc = r.sc }; dw0 = r.dw0; dw1 = r.dw1 }

-- OK, CONFLICT, QUEUE_FULL, QUEUE_ENDED
abbrev pub acceptance : Result Bool Refused → ℕ
acceptance (Ok is_conflict) = if is_conflict then 47 else 0
acceptance (Err refused.Full) = 48
acceptance (Err refused.Ended) = 49

-- OK, NO_COMMAND
abbrev pub answered : Option Response → ℕ
answered None = 50
answered (Some e) = 0

-- without a response the bytes stay
abbrev pub entry_if : Option Response → List ℕ → List ℕ
entry_if None bytes = bytes
entry_if (Some e) bytes = entry e

abbrev pub forgotten : Bool → ℕ
forgotten is_there = if is_there then 0 else 50
