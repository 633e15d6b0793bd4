use mathlib.Core.Path.{refl}
use borrow.Author.Rules.{rules}
use Rattle.text.proofs.BeforeFirst.{is_settled, is_readable, string_answers, string_refused, dry_left, pass_left, inkable, no_ink_asked}
use Rattle.text.proofs.string.draw_string.Goals as goal

pub text_pass-answer-requires : goal.text_pass-answer-requires
text_pass-answer-requires c =
    record { settled = search is_settled; readable = search is_readable; inkable = search no_ink_asked; other_value = search rules }

pub text_pass-requires : goal.text_pass-requires
text_pass-requires c =
    let dry = c.text_pass-answer.ensures in
    record {
      settled = search is_settled;
      readable = search is_readable;
      inkable = inkable _ _ _ _ _ _ _ _ _ dry.buf_after _ _ dry.value c.in-Done.is refl;
      other_value = search rules;
    }

pub returns-in-Done : goal.returns-in-Done
returns-in-Done c = record { value = search string_answers; buf_after = search pass_left }

pub returns-in-Refused-answer : goal.returns-in-Refused-answer
returns-in-Refused-answer c = record { value = search string_answers; buf_after = search dry_left }

pub returns-in-Refused : goal.returns-in-Refused
returns-in-Refused c = record { value = search string_refused; buf_after = refl }
