-- Each call's step, of what it did and what was printed.
use Rattle.std.proofs.Common.{◌≡◌, Some, refl, rules}
use Rattle.lines.specs.declared.Call.TheVariants.{Make, Put, Cancel, Show, Span, Seek, Blocks}
use Rattle.answers.proofs.Laws.Steps.{step_made, step_marked, step_put, step_cancel, step_kept}
use Rattle.answers.specs.Answers.{leaves, prints}
use Rattle.answers.proofs.printing.answer.Goals as goal

pub returns-in-Some : goal.returns-in-Some
returns-in-Some c =
    let e : c.args.line.call ≡ Some Make = search rules in
    step_made _ _ _ _ _ _ _ _ e c.make.ensures _ c.in-Some.is c.say_answer.ensures

pub returns-in-None-make : goal.returns-in-None-make
returns-in-None-make c =
    let e : c.args.line.call ≡ Some Make = search rules in
    step_marked _ _ _ _ _ _ _ _ e c.make.ensures c.in-None-make.is c.say_unknown.ensures

pub returns-in-Some-Put : goal.returns-in-Some-Put
returns-in-Some-Put c =
    let e : c.args.line.call ≡ Some Put = search rules in
    step_put _ _ _ _ _ _ _ _ c.say_answer-in-Some-Put.ensures e c.put.ensures

pub returns-in-Some-Cancel : goal.returns-in-Some-Cancel
returns-in-Some-Cancel c =
    let e : c.args.line.call ≡ Some Cancel = search rules in
    step_cancel _ _ _ _ _ _ _ _ c.say_answer-in-Some-Cancel.ensures e c.cancel.ensures

pub returns-in-Some-Show : goal.returns-in-Some-Show
unfolding leaves prints
returns-in-Some-Show c =
    let e : c.args.line.call ≡ Some Show = search rules in
    step_kept _ _ _ _ _ _ _ e refl c.answer_show.ensures

pub returns-in-Some-Span : goal.returns-in-Some-Span
unfolding leaves prints
returns-in-Some-Span c =
    let e : c.args.line.call ≡ Some Span = search rules in
    step_kept _ _ _ _ _ _ _ e refl c.answer_span.ensures

pub returns-in-Some-Seek : goal.returns-in-Some-Seek
unfolding leaves prints
returns-in-Some-Seek c =
    let e : c.args.line.call ≡ Some Seek = search rules in
    step_kept _ _ _ _ _ _ _ e refl c.answer_seek.ensures

pub returns-in-Some-Blocks : goal.returns-in-Some-Blocks
unfolding leaves prints
returns-in-Some-Blocks c =
    let e : c.args.line.call ≡ Some Blocks = search rules in
    step_kept _ _ _ _ _ _ _ e refl c.answer_blocks.ensures

pub returns-in-None : goal.returns-in-None
unfolding leaves prints
returns-in-None c = step_kept _ _ _ _ _ _ _ c.in-None.is refl c.say_unknown-in-None.ensures
