use Rattle.std.proofs.Common.{[], ◌∙◌, ap}
use Rattle.std.specs.Prelude.{codes}
use Rattle.resin_base.specs.FileStore.{with_entry}
use Rattle.resin_bench_site.specs.Site.{site_files, boot_text, writing_text, reading_text}
use Rattle.resin_bench_site.proofs.pages.sample_site.Goals as goal

pub returns-clause-ok : goal.returns-clause-ok
unfolding site_files
returns-clause-ok c =
    c.in_ok-put-3.ensures.ok
    ∙ ap (λ s. with_entry s (codes "r.php") reading_text [])
    (c.in_ok-put-2.ensures.ok
    ∙ ap (λ s. with_entry s (codes "w.php") writing_text [])
    (c.in_ok-put.ensures.ok ∙ ap (λ s. with_entry s (codes "boot.php") boot_text []) c.in_ok-site.ensures))
