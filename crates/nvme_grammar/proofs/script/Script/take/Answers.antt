use Rattle.std.proofs.Common.{rules, sym, ◌∙◌, refl, Some, ap, inl, inr}
use Rattle.std.proofs.lemmas.List.{append-nil}
use Rattle.nvme_grammar.proofs.ReadingLemmas.{Reads-push, Reads-silent, start_in-other, start_in-start}
use Rattle.nvme_grammar.proofs.script.Script.take.Goals as goal

pub returns-in-Blank-clause-read : goal.returns-in-Blank-clause-read
returns-in-Blank-clause-read c = λ lines h n f. Reads-silent c.args.self.now lines c.args.line.now h (inl c.in-Blank.is)

pub returns-in_ok-push-in-Event-clause-read : goal.returns-in_ok-push-in-Event-clause-read
returns-in_ok-push-in-Event-clause-read c = λ lines h n f.
    let read = Reads-silent c.args.self.now lines c.args.line.now h (inr (_, c.in-Event.is)) in
    record {
      controllers = read.controllers;
      namespaces = read.namespaces;
      attached = read.attached;
      start = read.start;
    }

pub returns-in_ok-push-in-Controller-clause-read : goal.returns-in_ok-push-in-Controller-clause-read
returns-in_ok-push-in-Controller-clause-read c = λ lines h n f. rw c.in-Controller.is (Reads-push c.args.self.now _
    lines _ h c.in_ok-push-in-Controller.ensures.items (sym (append-nil _)) (sym (append-nil _))
    (h.start ∙ sym (start_in-other lines _ refl)))

pub returns-in_ok-push-in-Namespace-clause-read : goal.returns-in_ok-push-in-Namespace-clause-read
returns-in_ok-push-in-Namespace-clause-read c = λ lines h n f. rw c.in-Namespace.is (Reads-push c.args.self.now _ lines
    _ h (sym (append-nil _)) c.in_ok-push-in-Namespace.ensures.items (sym (append-nil _))
    (h.start ∙ sym (start_in-other lines _ refl)))

pub returns-in_ok-push-in-Attached-clause-read : goal.returns-in_ok-push-in-Attached-clause-read
returns-in_ok-push-in-Attached-clause-read c = λ lines h n f. rw c.in-Attached.is (Reads-push c.args.self.now _ lines _
    h (sym (append-nil _)) (sym (append-nil _)) c.in_ok-push-in-Attached.ensures.items
    (h.start ∙ sym (start_in-other lines _ refl)))

pub returns-in-Start-clause-read : goal.returns-in-Start-clause-read
returns-in-Start-clause-read c = λ lines h n f. rw c.in-Start.is
    (Reads-push c.args.self.now _ lines _ h (sym (append-nil _)) (sym (append-nil _)) (sym (append-nil _))
    (ap Some n ∙ sym (start_in-start lines (search rules))))
