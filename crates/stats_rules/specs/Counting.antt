-- Statistics: how each call changes the fifteen numbers. Sums stop at the greatest number, differences at 0.
use Rattle.std.specs.Prelude.{ℕ, ◌+◌, ◌-◌, ◌^◌, Bool, true, false, min, max, cond}
use Rattle.layer_rules.specs.declared.Stats.{Stats}

abbrev pub greatest_number : ℕ
greatest_number = 2 ^ 64 - 1

-- a sum that stops at the greatest number
abbrev pub sum_to : ℕ → ℕ → ℕ
sum_to a b = min (a + b) greatest_number

abbrev pub with_tide : Stats → Stats
with_tide c = record c { bytes_high_tide = max c.bytes_high_tide c.bytes_used }

-- In these a slack is what the parent's good size leaves over.
abbrev pub count_allocate : (served : Bool) (n slack : ℕ) → Stats → Stats
count_allocate false n slack c = with_tide (record c { num_allocate = sum_to c.num_allocate 1 })
count_allocate true n slack c = with_tide (record c {
  num_allocate = sum_to c.num_allocate 1;
  num_allocate_ok = sum_to c.num_allocate_ok 1;
  bytes_used = sum_to c.bytes_used n;
  bytes_allocated = sum_to c.bytes_allocated n;
  bytes_slack = sum_to c.bytes_slack slack;
})

abbrev pub count_expand : (grown : Bool) (delta old_slack new_slack : ℕ) → Stats → Stats
count_expand false delta old_slack new_slack c = with_tide (record c { num_expand = sum_to c.num_expand 1 })
count_expand true delta old_slack new_slack c = with_tide (record c {
  num_expand = sum_to c.num_expand 1;
  num_expand_ok = sum_to c.num_expand_ok 1;
  bytes_used = sum_to c.bytes_used delta;
  bytes_allocated = sum_to c.bytes_allocated delta;
  bytes_slack = sum_to (c.bytes_slack - old_slack) new_slack;
})

abbrev pub count_failed_reallocate : Stats → Stats
count_failed_reallocate c = with_tide (record c { num_reallocate = sum_to c.num_reallocate 1 })

-- a served reallocate of len bytes to n, in place or moved
abbrev pub count_reallocate : (in_place : Bool) (len n old_slack new_slack : ℕ) → Stats → Stats
count_reallocate in_place len n old_slack new_slack c = with_tide (record c {
  num_reallocate = sum_to c.num_reallocate 1;
  num_reallocate_ok = sum_to c.num_reallocate_ok 1;
  num_reallocate_in_place = cond in_place (sum_to c.num_reallocate_in_place 1) c.num_reallocate_in_place;
  bytes_moved = cond in_place c.bytes_moved (sum_to c.bytes_moved (min len n));
  bytes_used = sum_to (c.bytes_used - len) n;
  bytes_allocated = sum_to c.bytes_allocated (n - len);
  bytes_slack = sum_to (c.bytes_slack - old_slack) new_slack;
})

abbrev pub count_deallocate : (len slack : ℕ) → Stats → Stats
count_deallocate len slack c = with_tide (record c {
  num_deallocate = sum_to c.num_deallocate 1;
  bytes_used = c.bytes_used - len;
  bytes_slack = c.bytes_slack - slack;
})

abbrev pub count_deallocate_all : Stats → Stats
count_deallocate_all c = with_tide (record c {
  num_deallocate_all = sum_to c.num_deallocate_all 1;
  bytes_used = 0;
  bytes_slack = 0;
})

abbrev pub count_owns : Stats → Stats
count_owns c = with_tide (record c { num_owns = sum_to c.num_owns 1 })
