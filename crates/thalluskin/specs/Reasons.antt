-- What the exported function that names a reason answers.
use Rattle.lookup.specs.Served.{itself}
use Rattle.why.specs.Why.{numbered, reason_number}
use Rattle.why.specs.declared.Told.{Told}
use Rattle.thalluskin.specs.declared.WhyAnswer.{WhyAnswer}

abbrev pub why_answer : Told → WhyAnswer
why_answer (Told.Because r by) = record { refusal = 0; place = 0; reason = reason_number r; by = by }
why_answer (Told.Refused r) = record { refusal = r.number; place = r.place; reason = numbered 0; by = itself 0 }
