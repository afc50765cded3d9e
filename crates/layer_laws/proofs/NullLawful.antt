-- The layer that serves nothing is regular and lawful.
use Rattle.std.proofs.Common.{◌≡◌, refl, subst, inl, Bool, true, false, ◌||◌, arith, nat_eq}
use Rattle.layer_rules.specs.declared.Block.{Block}
use Rattle.layer_rules.specs.State.{State, open_with, nothing, no_children, is_open}
use Rattle.layer_rules.specs.After.{Opened, opened, say, stay}
use Rattle.layer_rules.specs.Expanding.{expanded_unless}
use Rattle.layer_rules.specs.Reallocating.{reallocated_unless}
use Rattle.layer_rules.specs.NullRules.{null_rules}
use Rattle.layer_rules.specs.Rules.{HasSomeTags, HasDistinctTags, IsSettled}
use Rattle.layer_rules.specs.Testing.{is_bare}
use Rattle.space_core.specs.Cells.{Cells}
use Rattle.layer_laws.specs.Lawful.{TellingLaws, ReadingLaws, RefusingLaws, RefusedLaws, UnrangedLaws, TailLaws, KeptOnFalse, KeptUnmoved, OpennessLaws, OwningLaws, TakingLaws, OnlyOwnCells, IsRegular, SettledTags, Opens, HoldingLaws, PathLaws, IsLawful}
use Rattle.layer_laws.proofs.PathEnds.{neither-no_layer, end-paths}
use Rattle.layer_laws.proofs.Tests.{set-up-opens, settled-moved, takes-none}
use Rattle.layer_laws.proofs.Reallocated.{asked-same}
use Rattle.layer_laws.proofs.Steps.{refuse-good, refuse-aligned, same-told}
use Rattle.layer_laws.proofs.Unranged.{refused-refusing, unranged-regular}
use Rattle.layer_laws.proofs.Paths.{along-at_no_child}

-- ---- what all forms have

null-telling : TellingLaws null_rules
unfolding null_rules
null-telling = record { facts_count = λ s cells. refl; numbers_count = λ fs. refl; route_depth = λ b s. omega arith; enough = λ n. omega arith; of_nothing = refl; above_limit = λ n l. refl; aligned = record { power = (16, refl); some = omega arith; most = omega arith } }

null-reading : ReadingLaws null_rules
unfolding null_rules
null-reading = record {
  opens_as_fields = λ fs bytes. set-up-opens fs _ _;
  read = λ fs x y. refl;
  holds = λ b s. refl;
  route = λ b s. refl;
  routed = λ b s. refl;
  extent = λ b s. refl;
  owns_at = λ path possible b s. refl;
  owned = λ b s. refl;
  owns = λ b s. refl;
}

null-expand : (p q : Bool) (b : Block) (s : State) (cells : Cells) → KeptOnFalse s cells (expanded_unless p q (say false) b s cells)
null-expand true q b s cells e = absurd (cc)
null-expand false true b s cells e = (refl, refl)
null-expand false false b s cells e = (refl, refl)

null-reallocate : (p q r : Bool) (b : Block) (s : State) (cells : Cells) → KeptUnmoved s cells (reallocated_unless p q r (say true) stay b s cells)
null-reallocate true q r b s cells e = absurd (cc)
null-reallocate false true r b s cells e = absurd (cc)
null-reallocate false false true b s cells e = (refl, refl)
null-reallocate false false false b s cells e = (refl, refl)

or-true : (x : Bool) → true ≡ (x || true)
or-true true = refl
or-true false = refl

null-refused : RefusedLaws null_rules
unfolding null_rules
null-refused = record {
  allocate = λ n s cells e. (refl, refl);
  aligned_allocate = λ n a s cells e. (refl, refl);
  expand = λ delta b s cells. null-expand _ _ b s cells;
  reallocate = λ n b s cells. null-reallocate _ _ _ b s cells;
  free_tails = λ s cells h. refl;
  refuses_uncounted = λ n s t cells e. refl;
  refuses_aligned_uncounted = λ n a s t cells e. refl;
  free_tails_uncounted = λ s t e. refl;
}

null-refusing : RefusingLaws null_rules
unfolding null_rules
null-refusing = refused-refusing null_rules null-refused (λ n s cells t. or-true (nat_eq n 0)) (λ n a s cells. or-true (nat_eq n 0))

null-expanded : (p q : Bool) (b : Block) (s : State) (cells : Cells) → is_open (expanded_unless p q (say false) b s cells).state ≡ is_open s
null-expanded true q b s cells = refl
null-expanded false true b s cells = refl
null-expanded false false b s cells = refl

null-reallocated : (p q r : Bool) (b : Block) (s : State) (cells : Cells) → is_open (reallocated_unless p q r (say true) stay b s cells).state ≡ is_open s
null-reallocated true q r b s cells = refl
null-reallocated false true r b s cells = refl
null-reallocated false false true b s cells = refl
null-reallocated false false false b s cells = refl

null-openness : OpennessLaws null_rules
unfolding null_rules
null-openness = record {
  allocate = λ n s cells. refl;
  aligned_allocate = λ n a s cells. refl;
  expand = λ delta b s cells. null-expanded _ _ b s cells;
  reallocate = λ n b s cells. null-reallocated _ _ _ b s cells;
  deallocate = λ b s cells. refl;
  deallocate_all = λ s cells. refl;
  owns = λ b s. refl;
  set_up = λ need cells o q. let z : opened (open_with nothing no_children) cells ≡ o = cc in subst (λ (p : Opened). is_open p.state ≡ true) z refl;
}

null-owning : OwningLaws null_rules
unfolding null_rules
null-owning = record { answer = λ b s. refl; rest = λ b s. refl; not_owned = λ b s e. refl; open_holds = λ b s h. absurd (cc); held_size = λ b s h. absurd (cc); holds_uncounted = λ b s t q. refl; along = λ path possible b s. along-at_no_child true path possible; by_path = λ path b c s. refl }

null-taking : TakingLaws null_rules
unfolding null_rules
null-taking = record {
  allocate = λ n s cells. takes-none null_rules cells;
  aligned_allocate = λ n a s cells. takes-none null_rules cells;
  set_up = λ need cells o q. let z : opened (open_with nothing no_children) cells ≡ o = cc in subst (λ (p : Opened). OnlyOwnCells null_rules cells p.cells) z (takes-none null_rules cells);
  deallocate_count = λ b s cells. refl;
  deallocate_all_count = λ s cells. refl;
  names_a_node = λ need cells k q. absurd (cc);
}

null-tails : TailLaws null_rules
unfolding null_rules
null-tails = record { shut = refl; allocate = λ n s cells h. refl; set_up = λ need cells o q. refl }

pub null-unranged : UnrangedLaws null_rules
null-unranged = record { reading = null-reading; refused = null-refused; tails = null-tails; openness = null-openness; owning = null-owning; taking = null-taking }

pub null-regular : IsRegular null_rules
null-regular = unranged-regular null_rules null-unranged null-telling null-refusing

-- ---- on blocks that are out, of which there is none

pub null-some : HasSomeTags null_rules
unfolding null_rules
null-some = record { least = λ t l. absurd l }

pub null-distinct : HasDistinctTags null_rules
unfolding null_rules
null-distinct = tt

null-settled_tags : SettledTags null_rules
unfolding null_rules
null-settled_tags s old new k h = settled-moved null_rules s old new (is_bare s) (is_bare s) null-some k (λ o x. x) h

null-opens : Opens null_rules
unfolding null_rules
null-opens need cells o n q = let z : opened (open_with nothing no_children) cells ≡ o = cc in subst (λ (p : Opened). IsSettled null_rules p.state p.cells) z refl

null-holding : HoldingLaws null_rules
unfolding null_rules
null-holding = record { out_held = λ w b s cells h o. absurd (cc); own = λ b s cells h o. absurd (cc) }

null-paths : PathLaws null_rules
unfolding null_rules
null-paths = end-paths null_rules (record { asked = λ b s. refl; size = λ b s h. absurd (cc) }) (λ i path b s. neither-no_layer) null-holding

pub null-lawful : IsLawful null_rules
unfolding null_rules
null-lawful =
    record {
      keeping = record {
        out_some = λ b s cells o. absurd (cc);
        out_open = λ b s cells o. absurd (cc);
        good = λ n s cells o h. refuse-good null_rules n s cells o h;
        freed = λ b s cells o h x. absurd (cc);
        grown = λ delta b s cells o h x. absurd (cc);
        emptied = λ s cells o h. record { is_set = o; settled = h; none = λ b x. absurd (cc); table = λ c. inl refl };
        reallocated = λ n b s cells o h x. absurd (cc);
        same_length = λ b s cells. asked-same (say true) stay b s cells;
        aligned = λ n a s cells p l o h. refuse-aligned null_rules n a s cells o h;
        owned = λ b s cells h. same-told null_rules s cells h;
      };
      placing = record { covers = λ b s cells h o. absurd (cc); routed = λ b s cells l h o. absurd (cc); aligned = λ b s cells h o. absurd (cc); out_tags = λ b s old new k o. o; settled_tags = null-settled_tags };
      framing = record { own_framed = λ fs old new cells h i k. record { state = refl; image = refl; clean = λ c o z w. w; marked = λ c o z w. w }; framed = λ fs old new cells b h i o k. absurd (cc); marked = λ b s bytes h. h };
      opening = record { closed_settled = λ cells. refl; closed_image = λ bytes. refl; opens = null-opens };
      holding = null-holding;
      paths = null-paths;
    }
