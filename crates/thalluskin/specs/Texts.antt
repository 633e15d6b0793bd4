-- What the exported functions of texts take and answer.
use Rattle.std.specs.Prelude.{true, false}
use Rattle.text.specs.Walk.{wrap_of}
use Rattle.text.specs.declared.Layout.{Layout}
use Rattle.text.specs.declared.TextDrawn.{TextDrawn}
use Rattle.utf8.specs.declared.Step.{Step}
use Rattle.thalluskin.specs.Pages.{stride_of}
use Rattle.thalluskin.specs.declared.PageNumbers.{PageNumbers}
use Rattle.thalluskin.specs.declared.TextAnswer.{TextAnswer}
use Rattle.thalluskin.specs.declared.StepAnswer.{StepAnswer}

-- where and how a text with these numbers is set
abbrev pub layout_of : PageNumbers → Layout
layout_of page = record { start = page.start; wrap = wrap_of page.wrap; stride = stride_of page; scale = page.scale }

abbrev pub text_answer : TextDrawn → TextAnswer
text_answer (TextDrawn.Done t) = record { refusal = 0; place = 0; rows = t }
text_answer (TextDrawn.Refused r) = record { refusal = r.number; place = r.place; rows = record { height = 0; dropped = 0 } }

abbrev pub step_answer : Step → StepAnswer
step_answer (Step.Char c next) = record { refusal = 0; place = 0; found = true; code = c; next = next }
step_answer Step.End = record { refusal = 0; place = 0; found = false; code = record { 0 = 0 }; next = 0 }
step_answer (Step.Refused r) =
    record { refusal = r.number; place = r.place; found = false; code = record { 0 = 0 }; next = 0 }
