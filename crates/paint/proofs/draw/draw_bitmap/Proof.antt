use Rattle.outcome.proofs.Ready.{bitmap_refused, bitmap_drawn, width_fits, height_fits, stride_fits, scale_fits}
use borrow.Author.Rules.{rules}
use Rattle.paint.proofs.draw.draw_bitmap.Statement.{statement}
use Rattle.paint.proofs.draw.draw_bitmap.Tie as tie

pub draw_bitmap_spec : {M : Type 1} → statement M
draw_bitmap_spec =
    tie.close
    (tie.spec
    (λ c κs. search rules)  -- bitmap_ready-requires
    (λ c. search rules)  -- enum-told
    (λ c. search width_fits)  -- cast-show-at
    (λ c. search height_fits)  -- cast-show-at-2
    (λ c. search stride_fits)  -- cast-show-at-3
    (λ c. search scale_fits)  -- cast-show-at-4
    (λ c κs. search rules)  -- show_at-requires
    (λ c. search rules)  -- enum-known-permit
    (λ c. search rules)  -- same-length
    (λ c. search bitmap_drawn)  -- returns
    (λ c. search bitmap_refused))  -- returns-2
