-- What the exported functions of placing answer.
use Rattle.lookup.specs.Served.{itself}
use Rattle.place.specs.declared.GlyphInfo.{GlyphInfo}
use Rattle.place.specs.declared.Sized.{Sized}
use Rattle.place.specs.declared.CharPrepared.{CharPrepared}
use Rattle.thalluskin.specs.declared.ExtentAnswer.{ExtentAnswer}
use Rattle.thalluskin.specs.declared.InfoAnswer.{InfoAnswer}

abbrev pub extent_answer : Sized → ExtentAnswer
extent_answer (Sized.Dimensions d) = record { refusal = 0; place = 0; extent = d }
extent_answer (Sized.Refused r) = record { refusal = r.number; place = r.place; extent = record { height = 0; width = 0 } }

abbrev pub no_info : GlyphInfo
no_info = record { glyph = record { 0 = 0 }; width = 0; height = 0; pad_top = 0; pad_left = 0 }

abbrev pub info_answer : CharPrepared → InfoAnswer
info_answer (CharPrepared.Info i by) = record { refusal = 0; place = 0; info = i; by = by }
info_answer (CharPrepared.Refused r) = record { refusal = r.number; place = r.place; info = no_info; by = itself 0 }
