use Rattle.live_text.proofs.fault.put_nearest.Goals as goal

pub returns : goal.returns
returns g c = rw (c.in-Some.is, ← c.text.ensures) c.put_three.ensures
