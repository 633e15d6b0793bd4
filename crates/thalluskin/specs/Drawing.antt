-- What the exported functions of drawing answer.
use Rattle.bitmaps.specs.declared.Rows.{Rows}
use Rattle.bitmaps.specs.declared.Drawn.{Drawn}
use Rattle.bitmaps.specs.declared.Unpacked.{Unpacked}
use Rattle.lookup.specs.Served.{itself}
use Rattle.glyphs.specs.declared.CharDrawn.{CharDrawn}
use Rattle.thalluskin.specs.Placing.{no_info}
use Rattle.thalluskin.specs.declared.RowsAnswer.{RowsAnswer}
use Rattle.thalluskin.specs.declared.CharAnswer.{CharAnswer}
use Rattle.thalluskin.specs.declared.UnpackAnswer.{UnpackAnswer}

abbrev pub no_rows : Rows
no_rows = record { drawn = 0; dropped = 0 }

abbrev pub rows_answer : Drawn → RowsAnswer
rows_answer (Drawn.Rows n) = record { refusal = 0; place = 0; rows = n }
rows_answer (Drawn.Refused r) = record { refusal = r.number; place = r.place; rows = no_rows }

abbrev pub char_answer : CharDrawn → CharAnswer
char_answer (CharDrawn.Glyph i n by) = record { refusal = 0; place = 0; info = i; rows = n; by = by }
char_answer (CharDrawn.Refused r) = record { refusal = r.number; place = r.place; info = no_info; rows = no_rows; by = itself 0 }

abbrev pub unpack_answer : Unpacked → UnpackAnswer
unpack_answer (Unpacked.Rows n) = record { refusal = 0; place = 0; rows = n }
unpack_answer (Unpacked.Refused r) = record { refusal = r.number; place = r.place; rows = 0 }
