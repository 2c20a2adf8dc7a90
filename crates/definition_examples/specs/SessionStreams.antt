-- Streams, media and systems that record all their calls, for worked examples: the state of each is the list of them.
use Rattle.std.specs.Prelude.{◌≡◌, List, [], ◌∷◌, ◌++◌, None, true}
use Rattle.nvme_medium.specs.Examples.{logs}
use Rattle.nvme_medium.specs.declared.cached.Cached.{Cached}
use Rattle.nvme_medium.specs.declared.medium.Medium as medium
use Rattle.nvme_program.specs.SystemCalls.{SystemCall}
use Rattle.nvme_spec.specs.MediumCalls.{MediumCall}
use Rattle.script_text.specs.Streams.{OutputCall, ReadCall}
use Rattle.script_text.specs.Writing.{Sending}
use Rattle.script_text.specs.declared.stream.Sink as sink
use Rattle.script_text.specs.declared.stream.Source as source
use Rattle.nvme_live.specs.StreamExamples.{Writing}
use Rattle.nvme_live.specs.Streams.{LineCall}

-- a source of lines, and answers that are sent
abbrev pub Taking : List LineCall → LineCall → List LineCall → Type 0
Taking old call new = new ≡ old ++ call ∷ []

abbrev pub Answering : List Sending → Sending → List Sending → Type 0
Answering old answer new = new ≡ old ++ answer ∷ []

-- an input, an output, and a medium without blocks
abbrev pub recorded_input : source.Ghosts (List ReadCall)
recorded_input = record { remaining = λ calls. None; step = λ old call new. new ≡ old ++ call ∷ [] }

abbrev pub recorded_output : sink.Ghosts (List OutputCall)
recorded_output = record { contents = λ calls. None; step = Writing }

abbrev pub recorded_medium : medium.Ghosts (List MediumCall)
recorded_medium = record {
  tells = true;
  device = λ calls. record { content = []; failures = 0 };
  size = λ calls. 0;
  step = logs;
}

-- the same medium with any cache before it
abbrev pub cached_record : medium.Ghosts (Cached (List MediumCall) recorded_medium)
cached_record = record {
  tells = true;
  device = λ cached. record { content = []; failures = 0 };
  size = λ cached. 0;
  step = λ old call new. Unit {0};
}

-- a system with such images and scripts
abbrev pub Asking : List (SystemCall (List MediumCall) (List ReadCall)) → SystemCall (List MediumCall) (List ReadCall)
    → List (SystemCall (List MediumCall) (List ReadCall)) → Type 0
Asking old call new = new ≡ old ++ call ∷ []
