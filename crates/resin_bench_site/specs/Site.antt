-- The site of a sample run: three files (this project).
use Rattle.std.specs.Prelude.{ℕ, List, [], ◌∷◌, codes}
use Rattle.resin_base.specs.FileStore.{FileStore, with_entry}

-- what runs before each page: a policy whose check refuses every channel where its number divided by 7 leaves 3
abbrev pub boot_text : List ℕ
boot_text =
    codes "<?php class Tag extends Policy { public $n = 0; function export_check($c) { if ($this->n % 7 == 3) { throw new PolicyException(); } } }"

-- a page that writes a file, one of ten, all of whose bytes carry such a policy
abbrev pub writing_text : List ℕ
writing_text =
    codes "<?php $t = new Tag(); $t->n = (int)$_GET['n']; file_put_contents('f' . ($t->n % 10), policy_add(str_repeat('x', $t->n % 50 + 1), $t)); echo 'ok';"

-- a page that shows one of these files
abbrev pub reading_text : List ℕ
reading_text = codes "<?php echo '[', file_get_contents('f' . ((int)$_GET['n'] % 10)), ']';"

-- the paths of the site and the bytes there
unfoldable pub site_files : List (List ℕ × List ℕ)
site_files = (codes "boot.php", boot_text) ∷ (codes "w.php", writing_text) ∷ (codes "r.php", reading_text) ∷ []

-- the store once files are written, in this order and with empty shadow texts; what stood at other paths stays
abbrev pub with_files : FileStore → List (List ℕ × List ℕ) → FileStore
with_files s [] = s
with_files s (f ∷ fs) = with_files (with_entry s f.0 f.1 []) fs
