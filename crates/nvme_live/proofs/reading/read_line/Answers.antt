use Rattle.std.proofs.Common.{[], subst, rules}
use Rattle.nvme_live.specs.Taking.{TakesPart}
use Rattle.nvme_live.proofs.Takings.{so-far-none, so-far-more, line-last, line-end, front-so-far}
use Rattle.nvme_live.proofs.reading.read_line.Goals as goal

pub loop-init : goal.loop-init
loop-init g c = record {
  room = search rules;
  so_far = so-far-none (g.R.Read.remaining c.args.reader.now) c.clear.new.self.items c.clear.ensures.items;
}

pub returns-in-Err-clause-fault : goal.returns-in-Err-clause-fault
returns-in-Err-clause-fault g c =
    front-so-far (g.R.Read.remaining c.args.reader.now) (g.R.Read.remaining c.loop.reader)
    (g.R.Read.remaining c.take_part.new.reader) c.loop.some c.loop.line.items [] c.loop.invariant.so_far
    c.in-Err.ensures.fault

pub returns-in-Ok-Last-clause-line : goal.returns-in-Ok-Last-clause-line
returns-in-Ok-Last-clause-line g c =
    let part = subst (λ p. TakesPart p (g.R.Read.remaining c.loop.reader) (g.R.Read.remaining c.take_part.new.reader)
    c.loop.line.items c.take_part.new.line.items) c.in-Ok-Last.field-0-is c.in-Ok-Last.ensures.part in
    line-last (g.R.Read.remaining c.args.reader.now) (g.R.Read.remaining c.loop.reader)
    (g.R.Read.remaining c.take_part.new.reader) c.loop.some c.loop.line.items c.take_part.new.line.items
    c.loop.invariant.so_far part

pub returns-in-Ok-Nothing-clause-line : goal.returns-in-Ok-Nothing-clause-line
returns-in-Ok-Nothing-clause-line g c =
    let part = subst (λ p. TakesPart p (g.R.Read.remaining c.loop.reader) (g.R.Read.remaining c.take_part.new.reader)
    c.loop.line.items c.take_part.new.line.items) c.in-Ok-Nothing.field-0-is c.in-Ok-Nothing.ensures.part in
    line-end (g.R.Read.remaining c.args.reader.now) (g.R.Read.remaining c.loop.reader)
    (g.R.Read.remaining c.take_part.new.reader) c.loop.some c.loop.line.items c.take_part.new.line.items
    c.loop.invariant.so_far part

pub loop-preserved : goal.loop-preserved
loop-preserved g c =
    let part = subst (λ p. TakesPart p (g.R.Read.remaining c.loop.reader) (g.R.Read.remaining c.take_part.new.reader)
    c.loop.line.items c.take_part.new.line.items) c.in-Ok-Middle.field-0-is c.in-Ok-Middle.ensures.part in
    record {
      room = c.take_part.ensures.room;
      so_far = so-far-more (g.R.Read.remaining c.args.reader.now) (g.R.Read.remaining c.loop.reader)
          (g.R.Read.remaining c.take_part.new.reader) c.loop.some c.loop.line.items c.take_part.new.line.items
          c.loop.invariant.so_far part;
    }
