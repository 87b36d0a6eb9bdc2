use Rattle.std.proofs.Common.{◌≡◌, ◌∙◌, List, ◌∷◌, ap, sym}
use Rattle.std.specs.BTreeMap.{insert_entry}
use Rattle.deneva_base.specs.Keys.{key_cmp}
use Rattle.deneva_base.specs.Rows.{rows_in, put_all}
use Rattle.deneva_base.specs.declared.keys.Key.{Key}
use Rattle.deneva_base.specs.declared.rows.Cell.{Cell}
use Rattle.deneva_base.specs.declared.rows.Keyed.{Keyed}
use Rattle.deneva_base.proofs.Entries.{put-entries}
use Rattle.deneva_top.proofs.serial_model.put_rows.Goals as goal

-- one more row is put
step : (entries more : List (Key × List Cell)) (w : Keyed) (left rest : List Keyed) (all : List Keyed)
    → left ≡ w ∷ rest → more ≡ insert_entry key_cmp entries w.key w.row → put_all (rows_in entries) left ≡ all → put_all (rows_in more) rest ≡ all
step entries more w left rest all e h inv =
    ap (λ (es : List (Key × List Cell)). put_all (rows_in es) rest) h
    ∙ ap (λ (rows : List Keyed). put_all rows rest) (sym (put-entries entries w.key w.row))
    ∙ ap (λ (ws : List Keyed). put_all (rows_in entries) ws) (sym e)
    ∙ inv

pub loop-write-preserved-in_ok-insert : goal.loop-write-preserved-in_ok-insert
loop-write-preserved-in_ok-insert c =
    step c.loop-write.rows.entries c.insert.new.self.entries c.in-Some.write _ _ _ c.in-Some.ensures.steps.0 c.in_ok-insert.ensures.entries c.loop-write.invariant

pub loop-write-preserved : goal.loop-write-preserved
loop-write-preserved c =
    step c.loop-write.rows.entries c.insert.new.self.entries c.in-Some.write _ _ _ c.in-Some.ensures.steps.0 c.in_ok-insert.ensures.entries c.loop-write.invariant
