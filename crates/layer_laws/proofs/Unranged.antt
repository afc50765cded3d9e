-- What is regular has the laws that need no numbers in range; what has these is regular where it tells, and refuses, as it should.
use Rattle.std.proofs.Common.{◌≡◌, ℕ, true, ◌||◌, is_none, nat_eq}
use Rattle.space_core.specs.Cells.{Cells}
use Rattle.layer_rules.specs.State.{State}
use Rattle.layer_rules.specs.Rules.{Rules}
use Rattle.layer_laws.specs.Lawful.{TellingLaws, RefusingLaws, RefusedLaws, UnrangedLaws, IsRegular}

-- ---- what is regular has them

refusing-refused : (e : Rules) → RefusingLaws e → RefusedLaws e
refusing-refused e p = record {
  allocate = p.allocate;
  aligned_allocate = p.aligned_allocate;
  expand = p.expand;
  reallocate = p.reallocate;
  free_tails = p.free_tails;
  refuses_uncounted = p.refuses_uncounted;
  refuses_aligned_uncounted = p.refuses_aligned_uncounted;
  free_tails_uncounted = p.free_tails_uncounted;
}

pub regular-unranged : (e : Rules) → IsRegular e → UnrangedLaws e
regular-unranged e p = record { reading = p.reading; refused = refusing-refused e p.refusing; tails = p.tails; openness = p.openness; owning = p.owning; taking = p.taking }

-- ---- and with the rest they make it regular

pub refused-refusing : (e : Rules) → RefusedLaws e
    → ((n : ℕ) (s : State) (cells : Cells) → e.has_free_tails s ≡ true → is_none (e.allocate n s cells).answer ≡ (nat_eq n 0 || e.refuses n s cells))
    → ((n a : ℕ) (s : State) (cells : Cells) → is_none (e.aligned_allocate n a s cells).answer ≡ (nat_eq n 0 || e.refuses_aligned n a s cells)) → RefusingLaws e
refused-refusing e p none none_aligned = record {
  allocate = p.allocate;
  aligned_allocate = p.aligned_allocate;
  expand = p.expand;
  reallocate = p.reallocate;
  none = none;
  none_aligned = none_aligned;
  free_tails = p.free_tails;
  refuses_uncounted = p.refuses_uncounted;
  refuses_aligned_uncounted = p.refuses_aligned_uncounted;
  free_tails_uncounted = p.free_tails_uncounted;
}

pub unranged-regular : (e : Rules) → UnrangedLaws e → TellingLaws e → RefusingLaws e → IsRegular e
unranged-regular e p t r = record { telling = t; reading = p.reading; refusing = r; tails = p.tails; openness = p.openness; owning = p.owning; taking = p.taking }
