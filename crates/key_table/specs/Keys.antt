-- The tests of keys that hash tables use.
use Rattle.std.specs.Prelude.{Bool, ◌==◌, ◌&&◌}
use Rattle.deneva_base.specs.declared.keys.Key.{Key}

-- a key's, which joins the fields from the right
abbrev pub same_key : Key → Key → Bool
same_key k q = (k.table == q.table) && ((k.a == q.a) && ((k.b == q.b) && (k.c == q.c)))
