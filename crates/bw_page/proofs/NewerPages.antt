-- A chain over a page of the log in which its oldest records stand already.

use Rattle.std.proofs.Common.{◌≡◌, List, [], ◌∷◌, ◌++◌, refl, sym, ap, ◌∙◌}
use Rattle.std.proofs.lemmas.List.Sums.{fold-append}
use Rattle.bw_record.specs.declared.leaf.Leaf.{Leaf}
use Rattle.bw_leaf.specs.declared.chain.Link.{Link}
use Rattle.bw_leaf.specs.declared.chain.Link.TheVariants.{Delta, Flushed}
use Rattle.bw_leaf.specs.Changed.{changed, all_changed}
use Rattle.bw_leaf.specs.Links.{told, records_of}
use Rattle.bw_page.specs.Laws.{ChainsReadOverNewer}
use Rattle.bw_page.proofs.Twice.{twice}

-- links say what their records do
pub told-records : (links : List Link) (leaf : Leaf) → told links leaf ≡ all_changed (records_of links) leaf
told-records [] leaf = refl
told-records (Delta r ∷ links) leaf =
    ap (changed r) (told-records links leaf) ∙ sym (fold-append (λ l x. changed x l) leaf (records_of links) (r ∷ []))
told-records (Flushed place ∷ links) leaf = told-records links leaf

pub told-append : (new old : List Link) (leaf : Leaf) → told (new ++ old) leaf ≡ told new (told old leaf)
told-append [] old leaf = refl
told-append (Delta r ∷ new) old leaf = ap (changed r) (told-append new old leaf)
told-append (Flushed place ∷ new) old leaf = told-append new old leaf

pub chains_over_newer : ChainsReadOverNewer
chains_over_newer leaf new old h =
    told-append new old (told old leaf)
    ∙ ap (told new) (told-records old (told old leaf)
    ∙ ap (all_changed (records_of old)) (told-records old leaf)
    ∙ twice leaf (records_of old) h
    ∙ sym (told-records old leaf))
    ∙ sym (told-append new old leaf)
