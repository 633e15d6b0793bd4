-- Ten calls write the line, one run of characters after the other.
use Rattle.frames.proofs.Chain.{then}
use Rattle.frames.proofs.Lines.{frame_wrote}
use Rattle.frames.proofs.frame_line.put_fields.Goals as goal

pub returns : goal.returns
returns c =
    frame_wrote _ _ _ _ _ c.requires.name_value _ _ _ _
    (then c.number.ensures
    (then c.number-2.ensures
    (then c.number-3.ensures
    (then c.number-4.ensures
    (then c.number-5.ensures
    (then c.number-6.ensures
    (then c.field.ensures
    (then c.character.ensures
    (then c.put_picture.ensures c.character-2.ensures)))))))))
