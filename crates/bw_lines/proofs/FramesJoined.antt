-- The blocks of frames that follow one another.

use Rattle.std.proofs.Common.{◌≡◌, ℕ, List, [], ◌∷◌, ◌++◌, reverse, refl, sym, ap, ◌∙◌, subst, append_assoc}
use Rattle.std.specs.BTreeMap as tree
use Rattle.std.proofs.lemmas.List.{reverse-append}
use Rattle.bw_record.specs.declared.block.Block.{Block}
use Rattle.bw_record.specs.declared.block.Place.{Place}
use Rattle.bw_record.specs.declared.block.Frame.{Frame}
use Rattle.bw_log.specs.Places.{placed, all_placed, bad_link}
use Rattle.bw_lines.specs.declared.links.Line.{Line}
use Rattle.bw_lines.specs.declared.links.ReadFault.{ReadFault}
use Rattle.bw_lines.specs.Reading.{IsRead, LinkFaultIs}

pub popped : {A : Type 0} (old new : List A) (x : A) → old ≡ new ++ x ∷ [] → reverse old ≡ x ∷ reverse new
popped old new x is = ap reverse is ∙ reverse-append new (x ∷ [])

append_empty : {A : Type 0} (xs : List A) → xs ++ [] ≡ xs
append_empty [] = refl
append_empty {A} (x ∷ xs) = ap (λ (l : List A). x ∷ l) (append_empty xs)

pub placed_join : (xs ys : List Frame) → all_placed (xs ++ ys) ≡ all_placed xs ++ all_placed ys
placed_join [] ys = refl
placed_join (x ∷ xs) ys =
    ap (λ (l : List (Place × Block)). placed x.number 0 x.blocks ++ l) (placed_join xs ys)
    ∙ sym (append_assoc (placed x.number 0 x.blocks) (all_placed xs) (all_placed ys))

pub frames_step : (first : ℕ) (done : List (Place × Block)) (seen : List Frame) (f : Frame) (lines : tree.BTreeMap ℕ Line)
    → IsRead first ((done ++ all_placed seen) ++ placed f.number 0 f.blocks) lines → IsRead first (done ++ all_placed (seen ++ f ∷ [])) lines
frames_step first done seen f lines read =
    subst (λ (l : List (Place × Block)). IsRead first l lines)
    (append_assoc done (all_placed seen) (placed f.number 0 f.blocks)
    ∙ ap (λ (l : List (Place × Block)). done ++ l)
    (ap (λ (l : List (Place × Block)). all_placed seen ++ l) (sym (append_empty (placed f.number 0 f.blocks))) ∙ sym (placed_join seen (f ∷ [])))) read

frames_around : (done rest : List (Place × Block)) (seen : List Frame) (f : Frame) (more : List Frame)
    → (done ++ all_placed seen) ++ (placed f.number 0 f.blocks ++ (all_placed more ++ rest)) ≡ done ++ (all_placed (seen ++ f ∷ more) ++ rest)
frames_around done rest seen f more =
    append_assoc done (all_placed seen) (placed f.number 0 f.blocks ++ (all_placed more ++ rest))
    ∙ ap (λ (l : List (Place × Block)). done ++ l)
    (ap (λ (l : List (Place × Block)). all_placed seen ++ l) (sym (append_assoc (placed f.number 0 f.blocks) (all_placed more) rest))
    ∙ sym (append_assoc (all_placed seen) (placed f.number 0 f.blocks ++ all_placed more) rest)
    ∙ ap (λ (l : List (Place × Block)). l ++ rest) (sym (placed_join seen (f ∷ more))))

pub frames_wrong : (first : ℕ) (done rest : List (Place × Block)) (seen : List Frame) (f : Frame) (more all : List Frame) (fault : ReadFault)
    → seen ++ f ∷ more ≡ all
    → LinkFaultIs (bad_link first [] ((done ++ all_placed seen) ++ (placed f.number 0 f.blocks ++ (all_placed more ++ rest)))) fault
    → LinkFaultIs (bad_link first [] (done ++ (all_placed all ++ rest))) fault
frames_wrong first done rest seen f more all fault is wrong =
    subst (λ (l : List (Place × Block)). LinkFaultIs (bad_link first [] l) fault)
    (frames_around done rest seen f more ∙ ap (λ (l : List Frame). done ++ (all_placed l ++ rest)) is) wrong
